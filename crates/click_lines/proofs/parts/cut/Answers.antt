use Rattle.std.proofs.Common.{◌+◌, ◌∙◌, sym, arith}
use Rattle.std.proofs.lemmas.List.{take_rest}
use Rattle.click_lines.proofs.CutParts.{nowhere-before, place-before}
use Rattle.click_lines.proofs.parts.cut.Goals as goal

pub returns-in-None : goal.returns-in-None
returns-in-None c =
    let none = rw c.in-None.is at c.memchr.ensures in
    let whole = nowhere-before c.args.byte c.args.text.now (λ k lt. none k (omega arith) lt) in
    (sym whole.0, sym whole.1)

pub returns-in-Some : goal.returns-in-Some
returns-in-Some c =
    let text = c.args.text.now in
    let place = c.in-Some.place in
    let first = rw c.in-Some.is at c.memchr.ensures in
    let parts = place-before c.args.byte text place first.0.high first.1 (λ k lt. first.0.before k (omega arith) lt) in
    (sym parts.0, take_rest text (place + 1) ∙ sym parts.1)
