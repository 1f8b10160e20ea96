use Rattle.std.proofs.Common.{◌+◌, ◌*◌, ◌≤◌, ◌≡◌, get_or, drop, sym, ◌∙◌}
use Rattle.std.proofs.lemmas.List.{at_drop_more}
use Rattle.click_base.specs.Numbers.{spelled, digit_value}
use Rattle.click_base.proofs.DigitNumbers.{spelled_grows, above_most, none_above}
use Rattle.click_base.proofs.numbers.spelled.Goals as goal

pub returns-in_default : goal.returns-in_default
returns-in_default c =
    let ds = c.args.digits.now in
    let i = c.loop-digit.digit-index in
    let base = c.args.base in
    let more = base * c.loop-digit.number + c.from.result in
    let value : c.from.result ≡ digit_value (get_or ds i 0) = c.from.ensures ∙ c.digit_value.ensures.value in
    let step : spelled base c.loop-digit.number (drop i ds) ≡ spelled base (base * c.loop-digit.number + digit_value (get_or ds i 0)) (drop (i + 1) ds) = at_drop_more (spelled base c.loop-digit.number) ds i 0 c.loop-digit-test.true in
    let goes_on : spelled base more (drop (i + 1) ds) ≡ spelled base 0 ds = rw value (sym step ∙ c.loop-digit.invariant.goes_on) in
    let grown : more ≤ spelled base 0 ds = rw (← goes_on) (spelled_grows base more (drop (i + 1) ds) c.requires) in
    none_above c.args.high more _ (above_most c.args.high more (sym c.with_digit.ensures ∙ c.in_default.is)) grown
