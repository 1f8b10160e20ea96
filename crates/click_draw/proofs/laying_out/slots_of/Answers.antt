use Rattle.std.proofs.Common.{arith}
use Rattle.click_draw.proofs.Sorting.{slots-sorted}
use Rattle.click_draw.proofs.laying_out.slots_of.Goals as goal

pub returns : goal.returns
returns c =
    let i = c.loop-node.invariant in
    slots-sorted c.args.count c.loop-node.slots.items c.sort.new.self.items (omega (arith, i.all, c.loop-node-test.false, c.loop-node.auto.node-end)) i.each
    c.in_ok-sort.ensures.permutation (omega (arith, i.all, c.loop-node-test.false, c.loop-node.auto.node-end, c.in_ok-sort.ensures.len))
