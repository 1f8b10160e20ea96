use Rattle.std.proofs.Common.{◌≡◌, ◌++◌, ◌∷◌, [], Bool, cond, Some, ap, ◌∙◌, subst}
use Rattle.std.specs.Map.{lookup}
use Rattle.click_expand.specs.declared.connections.connection_index.ScopePort.{ScopePort}
use Rattle.click_expand.specs.declared.connections.passthrough.ScopeShortcuts.{ScopeShortcuts}
use Rattle.click_expand.specs.kept.Wiring.{ends_in, same_port}
use Rattle.click_expand.proofs.OfConnections.PortEquality.{port-eq}
use Rattle.click_expand.proofs.OfConnections.ShortcutLists.{shortcut, found-first, found-other}
use Rattle.click_expand.proofs.connections.passthrough.ScopeShortcuts.add.Goals as goal
use Rattle.click_expand.proofs.connections.passthrough.ScopeShortcuts.add.Goals.{in-Some+in_ok-insert, in_default}

pub returns : goal.returns
returns c = λ ends bodies scope are own leads.
    let here = ends_in c.args.index.now.ends.entries in let old = c.args.self.now in let from = c.args.from in let mid = c.match-only_end.self in
    let new : ScopeShortcuts = record { shortcuts = c.push.new.self; firsts = mid.firsts; alike = mid.alike } in
    elim c.match-only_end.branch [
      | in-Some+in_ok-insert w ↦
          found-first ends bodies scope here old new from are own c.args.outputs leads
          (c.in_ok-push.ensures.items ∙ ap (λ (f : ScopeShortcuts). f.shortcuts.items ++ shortcut from c.args.outputs ∷ []) w.self-is)
          w.in-Some.end w.in-Some.ensures
          (λ q. ap (λ (f : ScopeShortcuts). lookup (same_port q) f.firsts.entries) w.self-is
          ∙ subst (λ (e : ScopePort → ScopePort → Bool). lookup (e q) w.insert.new.self.entries ≡ cond (e w.in-Some.end q) (Some from.number) (lookup (e q) old.firsts.entries)) port-eq (w.in_ok-insert.ensures.updates.0 q))
          (ap (λ (f : ScopeShortcuts). f.alike) w.self-is)
      | in_default w ↦
          found-other ends bodies scope here old new from are own c.args.outputs leads
          (c.in_ok-push.ensures.items ∙ ap (λ (f : ScopeShortcuts). f.shortcuts.items ++ shortcut from c.args.outputs ∷ []) w.self-is)
          (ap (λ (f : ScopeShortcuts). f.firsts) w.self-is) (ap (λ (f : ScopeShortcuts). f.alike) w.self-is)
    ]
