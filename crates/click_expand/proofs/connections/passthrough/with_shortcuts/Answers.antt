use Rattle.std.proofs.Common.{◌≡◌, length, refl, arith}
use Rattle.std.proofs.lemmas.List.{nil_from_length}
use Rattle.click_expand.proofs.OfConnections.ShortcutIndices.{puts-next, puts-all}
use Rattle.click_expand.proofs.connections.passthrough.with_shortcuts.Goals as goal

pub loop-one-preserved : goal.loop-one-preserved
loop-one-preserved c =
    puts-next c.args.index.ends.entries c.args.found.shortcuts.items c.loop-one.shortcuts.items c.pop.new.self.items c.in-Some.one c.loop-one.ends.entries c.put_ends.new.ends.entries c.in-Some.ensures.items
    c.in_ok-put_ends.ensures c.loop-one.invariant

pub returns : goal.returns
returns c =
    let h = c.in_default.ensures.cases in
    let none : length c.loop-one.shortcuts.items ≡ 0 = omega (arith, h.0, c.loop-one.shortcuts.ok.0) in
    puts-all c.args.index _ c.args.found c.loop-one.shortcuts.items c.loop-one.ends.entries c.loop-one.invariant (nil_from_length c.loop-one.shortcuts.items none) refl refl
