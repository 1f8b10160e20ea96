use Rattle.std.proofs.Common.{refl}
use Rattle.click_scopes.specs.kept.Lookups.{body_at}
use Rattle.click_expand.specs.declared.connections.passthrough.ScopeShortcuts.{ScopeShortcuts}
use Rattle.click_expand.specs.kept.Wiring.{ends_in}
use Rattle.click_expand.proofs.OfConnections.ShortcutLists.{found-like}
use Rattle.click_expand.proofs.connections.passthrough.ScopeShortcuts.add_shortcut_from.Goals as goal

pub returns-in-Some : goal.returns-in-Some
returns-in-Some c = λ ends short known stand are.
    let here = ends_in c.args.index.now.ends.entries in let old = c.args.self.now in let bodies = body_at c.args.scopes.now.scopes.items in
    let new : ScopeShortcuts = record { shortcuts = old.shortcuts; firsts = old.firsts; alike = c.insert.new.self } in
    found-like ends bodies c.args.scope here old new c.args.from are c.in-Input.is c.in-Some.number (c.in-Some.ensures ends bodies c.args.scope are) refl refl
    (λ n. c.in_ok-insert.ensures.updates.0 n)
