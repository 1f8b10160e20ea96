use Rattle.std.proofs.Common.{arith, length-append, ◌∷◌, []}
use Rattle.click_draw.specs.kept.Boxed.{IsBoxed}
use Rattle.click_draw.proofs.Lists.{EachAt-push_at}
use Rattle.click_draw.proofs.laying_out.figures_of.Goals as goal

pub loop-element-preserved : goal.loop-element-preserved
loop-element-preserved c =
    let i = c.loop-element.invariant in
    let f = c.in_ok-figure_of.field-0 in
    rw c.in_ok-push.ensures.items (record {
      all = omega (arith, length-append c.loop-element.figures.items (f ∷ []), i.all);
      each = EachAt-push_at (IsBoxed c.args.net.now c.args.boxes.now) c.loop-element.figures.items f c.loop-element.element i.all i.each c.in_ok-figure_of.ensures;
    })
