use Rattle.std.proofs.Common.{◌≡◌}
use Rattle.std.proofs.lemmas.Result.{IfOk-weaker}
use Rattle.click_scopes.specs.kept.Lookups.{body_at}
use Rattle.click_expand.specs.declared.connections.connection_index.ScopePort.{ScopePort}
use Rattle.click_expand.specs.kept.Wiring.{ends_in}
use Rattle.click_expand.specs.kept.Passthrough.{HasShortcuts, IsShortened, AreAlike}
use Rattle.click_expand.proofs.OfConnections.ShortcutIndices.{short-both}
use Rattle.click_expand.proofs.connections.passthrough.with_shortcuts_of_scope.Goals as goal

pub returns : goal.returns
returns c = λ ends short known is.
    let body = body_at c.args.scopes.now.scopes.items in let s = c.args.scope in let old = c.in_ok-short.short in let found = c.in_ok-found.found in
    let stood = c.in_ok-short.ensures ends short known is in
    IfOk-weaker c.with_shortcuts.result (HasShortcuts old found) (λ x. ((a : ScopePort) → short s a ≡ ends_in x.ends.entries a) → IsShortened ends body short s × AreAlike ends body short s x)
    (λ x h at. short-both ends body short s old x found h (c.in_ok-found.ensures ends short known stood) stood at) c.with_shortcuts.ensures
