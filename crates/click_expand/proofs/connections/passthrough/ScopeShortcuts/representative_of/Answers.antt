use Rattle.std.proofs.Common.{◌≡◌, ℕ, Bool, Option, Some, None, IfSome, refl, sym, ◌∙◌, subst}
use Rattle.std.specs.Map.{lookup}
use Rattle.click_expand.specs.declared.connections.connection_index.ScopePort.{ScopePort}
use Rattle.click_expand.specs.kept.Wiring.{ends_in, same_port}
use Rattle.click_expand.proofs.OfConnections.PortEquality.{port-eq}
use Rattle.click_expand.proofs.OfConnections.ShortcutLists.{like-first}
use Rattle.click_expand.proofs.connections.passthrough.ScopeShortcuts.representative_of.Goals as goal

pub returns-in-Some : goal.returns-in-Some
returns-in-Some c = λ ends bodies scope are.
    let here = ends_in c.args.index.now.ends.entries in let found = c.args.self.now in let from = c.args.from in let end = c.in-Some.end in
    let at : c.copied.result ≡ lookup (same_port end) found.firsts.entries =
    subst (λ (e : ScopePort → ScopePort → Bool). c.copied.result ≡ lookup (e end) found.firsts.entries) port-eq (c.copied.ensures ∙ c.get.ensures.value) in
    by c.copied.result (λ k h. like-first ends bodies scope here found from end k are c.in-Some.ensures (sym at ∙ h))
  where
    by : {P : ℕ → Type 0} (r : Option ℕ) → ((k : ℕ) → r ≡ Some k → P k) → IfSome r P
    by None f = tt
    by (Some k) f = f k refl
