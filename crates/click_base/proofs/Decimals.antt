-- Lemmas about the text of a number: decimal digits that spell it.
use Rattle.std.proofs.Common.{◌≡◌, ℕ, ◌+◌, ◌-◌, ◌*◌, ◌^◌, ◌<◌, ◌≤◌, Bool, true, false, Some, Ok, Err, decimal, refl, ap, ◌∙◌, arith}
use Rattle.std.specs.Prelude.{◌&&◌, nat_le}
use Rattle.std.specs.List.{list_all}
use Rattle.std.specs.Int.{IsInRange}
use Rattle.std.proofs.lemmas.Bool.Decides.{nat_tests}
use Rattle.std.proofs.lemmas.Str.Parse.{IsDigitsTest, FoldsDigits, IsNumeralModel, numerals_by_fold}
use Rattle.std.proofs.lemmas.Fmt.{digits_decimal, digits_value-decimal, decimal_nonempty}
use Rattle.click_base.specs.declared.numbers.NumberFault.TheVariants as fault
use Rattle.click_base.specs.Numbers.{digit, is_run, spelled, digit_value, decimal_in, decimal_number, within}

digit_in : (c : ℕ) → IsInRange 48 57 c → digit c ≡ true
digit_in c h = grind (arith, nat_tests)

in_digit : (c : ℕ) → digit c ≡ true → IsInRange 48 57 c
in_digit c h = grind (arith, nat_tests)

worth_of : (c : ℕ) → IsInRange 48 57 c → digit_value c ≡ c - 48
worth_of c h = let e = digit_in c h in rw e refl

both : (a b : Bool) → (a && b) ≡ true → (a ≡ true) × (b ≡ true)
both true b e = (refl, e)
both false b e = cc

tells : IsDigitsTest (λ ds. list_all digit ds ≡ true)
tells = record {
  empty = refl;
  parts = λ c cs h. let p = both (digit c) (list_all digit cs) h in (in_digit c p.0, p.1);
  more = λ c cs r h. let e = digit_in c r in rw (e, h) refl;
}

folds : FoldsDigits (spelled 10)
folds = record {
  empty = λ n. refl;
  more = λ n c cs r. let v = worth_of c r in let e : 10 * n + digit_value c ≡ n * 10 + (c - 48) = omega (arith, v) in ap (λ m. spelled 10 m cs) e;
}

own : IsNumeralModel (λ ds. list_all digit ds ≡ true) (spelled 10 0)
own = numerals_by_fold _ tells (spelled 10) folds

pub digits-decimal : (n : ℕ) → n < 2 ^ 64 → list_all digit (decimal n) ≡ true
digits-decimal n h = digits_decimal own n h

pub is_run-decimal : (n : ℕ) → n < 2 ^ 64 → is_run digit (decimal n) ≡ true
is_run-decimal n h =
    let some = decimal_nonempty n h in
    let all = digits-decimal n h in
    grind (arith, nat_tests)

pub spelled-decimal : (n : ℕ) → n < 2 ^ 64 → spelled 10 0 (decimal n) ≡ n
spelled-decimal n h = digits_value-decimal own n h

-- ---- a number in a range

pub within_range : (low high n : ℕ) → low ≤ n → n ≤ high → within low high (Some n) ≡ Ok n
within_range low high n p q =
    let s : nat_le low n ≡ true = grind (arith, nat_tests) in
    let t : nat_le n high ≡ true = grind (arith, nat_tests) in
    rw (s, t) refl

pub within_below : (low high n : ℕ) → n < low → within low high (Some n) ≡ Err fault.OutOfRange
within_below low high n p = let s : nat_le low n ≡ false = grind (arith, nat_tests) in rw s refl

and_false : (a : Bool) → (a && false) ≡ false
and_false true = refl
and_false false = refl

pub within_above : (low high n : ℕ) → high < n → within low high (Some n) ≡ Err fault.OutOfRange
within_above low high n p =
    let s : nat_le n high ≡ false = grind (arith, nat_tests) in
    rw (s, and_false (nat_le low n)) refl

pub decimal_number-read : (low high n : ℕ) → n < 2 ^ 64 → decimal_number low high (decimal n) ≡ within low high (Some n)
unfolding decimal_number
decimal_number-read low high n h =
    let r = is_run-decimal n h in
    let s = spelled-decimal n h in
    rw (r, s) refl

pub decimal_in-read : (high n : ℕ) → n < 2 ^ 64 → n ≤ high → decimal_in high (decimal n) ≡ Some n
unfolding decimal_in
decimal_in-read high n h p =
    let r = is_run-decimal n h in
    let s = spelled-decimal n h in
    let t : nat_le n high ≡ true = grind (arith, nat_tests) in
    rw (r, s, t) refl

pub decimal_number-inside : (low high n : ℕ) → n < 2 ^ 64 → low ≤ n → n ≤ high → decimal_number low high (decimal n) ≡ Ok n
decimal_number-inside low high n h p q = decimal_number-read low high n h ∙ within_range low high n p q

pub decimal_number-below : (low high n : ℕ) → n < 2 ^ 64 → n < low → decimal_number low high (decimal n) ≡ Err fault.OutOfRange
decimal_number-below low high n h p = decimal_number-read low high n h ∙ within_below low high n p

pub decimal_number-above : (low high n : ℕ) → n < 2 ^ 64 → high < n → decimal_number low high (decimal n) ≡ Err fault.OutOfRange
decimal_number-above low high n h p = decimal_number-read low high n h ∙ within_above low high n p
