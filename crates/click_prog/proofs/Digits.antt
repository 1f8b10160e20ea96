-- Lemmas on texts of decimal digits.
use Rattle.std.proofs.Common.{◌≡◌, ◌&&◌, true, ℕ, List, [], ◌∷◌, refl, ap, ◌∙◌}
use Rattle.std.specs.List.{list_all}
use Rattle.std.specs.Char.{is_ascii_digit}
use Rattle.std.specs.Str.{all_ascii_digits}
use Rattle.std.specs.Str.Parse.{AllDigits}
use Rattle.std.proofs.lemmas.Str.Parse.{numerals_by_value, tells_all_ascii_digits}

same-test : (text : List ℕ) → list_all is_ascii_digit text ≡ all_ascii_digits text
same-test [] = refl
same-test (b ∷ text) = ap (λ t. is_ascii_digit b && t) (same-test text)

-- if a text has only digits, the test says so
pub tested : (text : List ℕ) → AllDigits 10 text → list_all is_ascii_digit text ≡ true
tested text digits = same-test text ∙ (numerals_by_value (λ ds. all_ascii_digits ds ≡ true) tells_all_ascii_digits).from text digits
