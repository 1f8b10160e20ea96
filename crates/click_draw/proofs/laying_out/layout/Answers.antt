use Rattle.std.proofs.Common.{length, List, ap, sym, subst, arith, All}
use Rattle.click_draw.specs.Picture.{IsInside}
use Rattle.click_draw.specs.kept.Placing.{NoneOverlap}
use Rattle.click_draw.specs.declared.drawing.Rectangle.{Rectangle}
use Rattle.click_draw.proofs.Drawn.{drawn-figures, figures-apart, frames-inside, figures-inside, all-joined}
use Rattle.click_draw.proofs.laying_out.layout.Goals as goal

pub lines_of-requires-clause-joined : goal.lines_of-requires-clause-joined
lines_of-requires-clause-joined c =
    let figures = drawn-figures c.args.net.now c.as_slice-boxes.result.now c.in_ok-placed.placed.boxes.items c.in_ok-figures.figures.items c.as_slice-3.result.now
    c.with_bends.new.widths.items c.in_ok-widths.widths.items c.bend_count-bends.result c.as_slice-boxes.ensures.value c.as_slice-3.ensures.value
    c.in_ok-figures.ensures.each c.in_ok-figures.ensures.all c.in_ok-widths.ensures.all c.in_ok-with_bends.ensures.all c.in_ok-with_bends.ensures.kept
    c.in_ok-placed.ensures.sized c.in_ok-widths.ensures.each in
    rw (c.as_slice-6.ensures.value, c.connections.ensures.value) (all-joined c.args.net.now c.in_ok-figures.figures.items c.connections.ensures.sound figures c.in_ok-figures.ensures.all)

pub lines_of-requires-clause-inside : goal.lines_of-requires-clause-inside
lines_of-requires-clause-inside c =
    let figures = drawn-figures c.args.net.now c.as_slice-boxes.result.now c.in_ok-placed.placed.boxes.items c.in_ok-figures.figures.items c.as_slice-3.result.now
    c.with_bends.new.widths.items c.in_ok-widths.widths.items c.bend_count-bends.result c.as_slice-boxes.ensures.value c.as_slice-3.ensures.value
    c.in_ok-figures.ensures.each c.in_ok-figures.ensures.all c.in_ok-widths.ensures.all c.in_ok-with_bends.ensures.all c.in_ok-with_bends.ensures.kept
    c.in_ok-placed.ensures.sized c.in_ok-widths.ensures.each in
    let inside = frames-inside c.args.net.now c.as_slice-boxes.result.now c.in_ok-figures.figures.items c.in_ok-placed.placed.width c.in_ok-placed.placed.height c.in_ok-figures.ensures.each
    (omega (arith, c.in_ok-figures.ensures.all, c.in_ok-widths.ensures.all, c.in_ok-with_bends.ensures.all, c.in_ok-placed.ensures.all, ap length c.as_slice-3.ensures.value, ap length c.as_slice-boxes.ensures.value)) (subst (λ (bs : List Rectangle). All (IsInside c.in_ok-placed.placed.width c.in_ok-placed.placed.height) bs) (sym c.as_slice-boxes.ensures.value) c.in_ok-placed.ensures.inside) in
    rw c.as_slice-6.ensures.value (figures-inside c.args.net.now c.in_ok-figures.figures.items c.in_ok-placed.placed.width c.in_ok-placed.placed.height figures inside)

pub returns-clause-each : goal.returns-clause-each
returns-clause-each c =
    rw c.of.ensures (drawn-figures c.args.net.now c.as_slice-boxes.result.now c.in_ok-placed.placed.boxes.items c.in_ok-figures.figures.items c.as_slice-3.result.now
    c.with_bends.new.widths.items c.in_ok-widths.widths.items c.bend_count-bends.result c.as_slice-boxes.ensures.value c.as_slice-3.ensures.value
    c.in_ok-figures.ensures.each c.in_ok-figures.ensures.all c.in_ok-widths.ensures.all c.in_ok-with_bends.ensures.all c.in_ok-with_bends.ensures.kept
    c.in_ok-placed.ensures.sized c.in_ok-widths.ensures.each)

pub returns-clause-apart : goal.returns-clause-apart
returns-clause-apart c =
    rw c.of.ensures (figures-apart c.args.net.now c.as_slice-boxes.result.now c.in_ok-figures.figures.items c.in_ok-figures.ensures.each (omega (arith, c.in_ok-figures.ensures.all, c.in_ok-widths.ensures.all, c.in_ok-with_bends.ensures.all, c.in_ok-placed.ensures.all, ap length c.as_slice-3.ensures.value, ap length c.as_slice-boxes.ensures.value))
    (subst (λ (bs : List Rectangle). NoneOverlap bs) (sym c.as_slice-boxes.ensures.value) c.in_ok-placed.ensures.apart))

pub returns-clause-inside : goal.returns-clause-inside
returns-clause-inside c =
    rw c.of.ensures (frames-inside c.args.net.now c.as_slice-boxes.result.now c.in_ok-figures.figures.items c.in_ok-placed.placed.width c.in_ok-placed.placed.height c.in_ok-figures.ensures.each
    (omega (arith, c.in_ok-figures.ensures.all, c.in_ok-widths.ensures.all, c.in_ok-with_bends.ensures.all, c.in_ok-placed.ensures.all, ap length c.as_slice-3.ensures.value, ap length c.as_slice-boxes.ensures.value)) (subst (λ (bs : List Rectangle). All (IsInside c.in_ok-placed.placed.width c.in_ok-placed.placed.height) bs) (sym c.as_slice-boxes.ensures.value) c.in_ok-placed.ensures.inside))
