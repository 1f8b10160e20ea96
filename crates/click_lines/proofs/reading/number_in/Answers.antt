use Rattle.std.proofs.Common.{Some, ap, arith}
use Rattle.click_lines.proofs.NumberReadback.{no_error, number_back, same_value}
use Rattle.click_lines.proofs.reading.number_in.Goals as goal

pub returns-in-Ok : goal.returns-in-Ok
returns-in-Ok c = λ n small e.
    let back = number_back 18446744073709551615 n c.args.digits.now c.decimal_number.result small (omega (arith, small)) e c.decimal_number.ensures.value in
    ap Some (same_value c.decimal_number.result c.in-Ok.number n c.in-Ok.is back)

pub returns-in-Err : goal.returns-in-Err
returns-in-Err c = λ n small e.
    let back = number_back 18446744073709551615 n c.args.digits.now c.decimal_number.result small (omega (arith, small)) e c.decimal_number.ensures.value in
    absurd (no_error c.decimal_number.result n c.in-Err.field-0 back c.in-Err.is)
