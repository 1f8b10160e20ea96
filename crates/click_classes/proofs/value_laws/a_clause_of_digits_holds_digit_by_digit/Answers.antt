use Rattle.click_classes.proofs.OfPatterns.ClauseDigits.{holds-digits, holds-not_digits}
use Rattle.click_classes.proofs.value_laws.a_clause_of_digits_holds_digit_by_digit.Goals as goal

pub returns : goal.returns
returns c = record { plain = holds-digits; negated = holds-not_digits }
