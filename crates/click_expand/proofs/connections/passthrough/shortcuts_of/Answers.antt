use Rattle.std.proofs.Common.{sym, subst}
use Rattle.click_scopes.specs.kept.Lookups.{body_at}
use Rattle.click_expand.specs.kept.Wiring.{ends_in}
use Rattle.click_expand.specs.kept.Passthrough.{AreFound}
use Rattle.click_expand.proofs.OfConnections.ShortcutLists.{found-none}
use Rattle.click_expand.proofs.connections.passthrough.shortcuts_of.Goals as goal
use Rattle.click_expand.proofs.connections.passthrough.shortcuts_of.Goals.{in-Some+in_ok-add_shortcut_from, in_default}

pub loop-at-init : goal.loop-at-init
loop-at-init c = λ ends short known stand.
    found-none ends (body_at c.args.scopes.now.scopes.items) c.args.scope (ends_in c.args.index.now.ends.entries) (record { shortcuts = c.new.result; firsts = c.new-2.result; alike = c.new-3.result }) c.new.ensures.items
    c.new-2.ensures.empty c.new-3.ensures.empty

pub loop-at-preserved : goal.loop-at-preserved
loop-at-preserved c = λ ends short known stand.
    let are = c.loop-at.invariant ends short known stand in
    elim c.match-get_index.branch [
      | in-Some+in_ok-add_shortcut_from w ↦
          subst (AreFound ends (body_at c.args.scopes.now.scopes.items) c.args.scope (ends_in c.args.index.now.ends.entries)) (sym w.found-is) (w.in_ok-add_shortcut_from.ensures ends short known stand are)
      | in_default w ↦ subst (AreFound ends (body_at c.args.scopes.now.scopes.items) c.args.scope (ends_in c.args.index.now.ends.entries)) (sym w.found-is) are
    ]

pub returns : goal.returns
returns c = c.loop-at.invariant
