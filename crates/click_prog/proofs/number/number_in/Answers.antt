use Rattle.std.proofs.Common.{arith}
use Rattle.click_prog.proofs.Digits.{tested}
use Rattle.click_prog.proofs.number.number_in.Goals as goal

pub returns-then-not-are_digits : goal.returns-then-not-are_digits
returns-then-not-are_digits c = λ n number. let digits = tested c.args.text.now number.0.1 in absurd (grind (arith, c.as_bytes.ensures.value, c.are_digits.ensures, c.if-not-are_digits.true))
