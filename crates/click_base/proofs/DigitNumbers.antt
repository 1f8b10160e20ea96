-- Lemmas about numbers that digits spell.
use Rattle.std.proofs.Common.{◌≡◌, ◌≤◌, ◌<◌, ◌+◌, ◌*◌, ℕ, List, [], ◌∷◌, None, arith}
use Rattle.std.proofs.lemmas.Bool.Decides.{nat_tests}
use Rattle.std.proofs.Math.Nat.{mul-le-mul_left}
use Rattle.click_base.specs.Numbers.{spelled, digit_value, at_most}

product_grows : (base n : ℕ) → 0 < base → n ≤ base * n
product_grows base n h = let one : 1 ≤ base = omega arith in omega (arith, mul-le-mul_left n one)

-- more digits make a number no smaller
pub spelled_grows : (base n : ℕ) (ds : List ℕ) → 0 < base → n ≤ spelled base n ds
spelled_grows base n [] h = omega arith
spelled_grows base n (d ∷ ds) h =
    let more = spelled_grows base (base * n + digit_value d) ds h in
    let product = product_grows base n h in
    omega arith

pub above_most : (high n : ℕ) → at_most high n ≡ None → high < n
above_most high n h = grind (arith, nat_tests)

pub none_above : (high n m : ℕ) → high < n → n ≤ m → None ≡ at_most high m
none_above high n m h k = grind (arith, nat_tests)
