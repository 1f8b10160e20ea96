use Rattle.std.proofs.Common.{arith, length-append, ◌∷◌, []}
use Rattle.click_draw.specs.Picture.{IsMark}
use Rattle.click_draw.proofs.Lists.{EachAt-push_at}
use Rattle.click_draw.proofs.looks.marks_of.Goals as goal

-- By hand, because a search compares the classes of ports, which are many.
pub loop-port-preserved : goal.loop-port-preserved
loop-port-preserved c =
    let i = c.loop-port.invariant in
    let m = c.mark_of.result in
    let e = c.mark_of.ensures in
    rw c.in_ok-push.ensures.ok (record {
      all = omega (arith, length-append c.loop-port.marks (m ∷ []), i.all);
      each = EachAt-push_at (IsMark c.args.net.now c.args.element c.args.side) c.loop-port.marks m c.loop-port.port i.all i.each (record { pull = e.pull; agnostic = e.agnostic; at = e.at });
    })
