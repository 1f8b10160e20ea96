use Rattle.std.proofs.Common.{ℕ, subst, arith}
use Rattle.click_draw.specs.kept.Placing.{IsSized}
use Rattle.click_draw.specs.declared.placing.Slot.{Slot}
use Rattle.click_draw.proofs.placing.place.Goals as goal

pub returns-clause-sized : goal.returns-clause-sized
returns-clause-sized c = λ n l.
    let e = c.requires.slots.each n l in
    let s : Slot = record { row = 0; preferred = 0; node = 0 } in
    let h = c.loop-drawn.invariant.sized e.0 s (omega (arith, e.1, c.loop-drawn-test.false)) in
    subst (λ (m : ℕ). IsSized c.args.widths.now c.loop-drawn.boxes.items m) (e.2 s) h
