use Rattle.std.proofs.Common.{◌≡◌, Some, None, refl, sym, ◌∙◌}
use Rattle.click_lines.proofs.NumberReadback.{destination_back, paint_back}
use Rattle.click_lines.proofs.packet.read_annotations.Goals as goal

pub returns-in_err-paint : goal.returns-in_err-paint
returns-in_err-paint c = λ paint destination l four h e.
    let p = paint_back paint destination c.args.text.now c.decimal_number.result l e (rw c.cut.ensures.0 at c.decimal_number.ensures.value) in
    let found : c.ok.result ≡ Some paint = rw p at c.ok.ensures.value in
    let bad : Some paint ≡ None = sym found ∙ c.in_err-paint.was in
    absurd cc

pub returns-in_err-destination : goal.returns-in_err-destination
returns-in_err-destination c = λ paint destination l four h e.
    let d = destination_back paint destination c.args.text.now c.address.result l four h e (rw c.cut.ensures.1 at c.address.ensures) in
    let found : c.ok-2.result ≡ Some destination = rw d at c.ok-2.ensures.value in
    let bad : Some destination ≡ None = sym found ∙ c.in_err-destination.was in
    absurd cc

pub returns : goal.returns
returns c = λ paint destination l four h e.
    let text = c.args.text.now in
    let p = paint_back paint destination text c.decimal_number.result l e (rw c.cut.ensures.0 at c.decimal_number.ensures.value) in
    let d = destination_back paint destination text c.address.result l four h e (rw c.cut.ensures.1 at c.address.ensures) in
    let paints : Some c.in_ok-paint.paint ≡ Some paint = sym c.in_ok-paint.was ∙ rw p at c.ok.ensures.value in
    let destinations : Some c.in_ok-destination.destination ≡ Some destination = sym c.in_ok-destination.was ∙ rw d at c.ok-2.ensures.value in
    let one : c.in_ok-paint.paint ≡ paint = cc in
    let two : c.in_ok-destination.destination ≡ destination = cc in
    (refl, rw (c.set_destination.ensures, c.set_paint.ensures, one, two) refl)
