use Rattle.std.proofs.Common.{◌≡◌, ℕ, ◌<◌, List, length, get_or, Some, false, ap, subst, arith}
use Rattle.std.specs.List.{slice_get}
use Rattle.std.proofs.lemmas.Option.{slice_get-get_or}
use Rattle.click_base.specs.declared.class.Class.TheVariants as class
use Rattle.click_ports.specs.declared.shape.Shape.{Shape}
use Rattle.click_ports.proofs.FirstBreach.{counted-next, counted-all, count-told}
use Rattle.click_ports.proofs.counted.first_miscount.Goals as goal

none : Shape
none = record { class = class.Queue; counts = record { inputs = (0, 0); outputs = (0, 0); equal = false } }

-- the shape at an index
at : (ss xs : List Shape) (e : ℕ) → xs ≡ ss → e < length xs → slice_get ss e ≡ Some (get_or xs e none)
at ss xs e h l = subst (λ ys. slice_get ys e ≡ Some (get_or xs e none)) h (slice_get-get_or xs e none l)

pub returns-in-Some : goal.returns-in-Some
unfolding none
returns-in-Some c =
    let w = c.args.layout.now in let xs = c.shapes-shape-items.result.now in let e = c.loop-element.element in
    count-told w.shapes w.connections e c.used-inputs.result c.used-outputs.result c.used.result (get_or xs e none) c.in-Some.side
    (at w.shapes xs e c.shapes-shape-items.ensures c.loop-element-test.true) c.used-inputs.ensures.value c.used-outputs.ensures.value c.used.ensures.value c.in-Some.ensures c.loop-element.invariant

pub loop-element-preserved : goal.loop-element-preserved
unfolding none
loop-element-preserved c =
    let w = c.args.layout.now in let xs = c.shapes-shape-items.result.now in let e = c.loop-element.element in
    counted-next w.shapes w.connections e c.used-inputs.result c.used-outputs.result (get_or xs e none) (at w.shapes xs e c.shapes-shape-items.ensures c.loop-element-test.true)
    c.used-inputs.ensures.value c.used-outputs.ensures.value c.in_default.ensures c.loop-element.invariant

pub returns : goal.returns
returns c =
    let w = c.args.layout.now in
    counted-all w.shapes w.connections c.loop-element.element (omega (arith, c.loop-element-test.false, ap length c.shapes-shape-items.ensures)) c.loop-element.invariant
