-- Values read back from their text.
use Rattle.std.proofs.Common.{◌≡◌, ℕ, suc, ◌+◌, ◌^◌, ◌<◌, ◌≤◌, List, [], ◌∷◌, ◌++◌, length, drop, true, Some, Ok, Err, decimal, refl, ap, ◌∙◌, arith, codes, append_assoc}
use Rattle.std.specs.Prelude.{nat_le}
use Rattle.std.specs.Option.{ok_or}
use Rattle.std.proofs.Math.Seq.{take-append_seam, drop-append-add}
use Rattle.std.proofs.lemmas.Bool.Decides.{nat_tests}
use Rattle.std.proofs.lemmas.Fmt.{length-decimal-le}
use Rattle.click_base.specs.Numbers.{digit, within}
use Rattle.click_classes.specs.declared.fault.ArgFault.TheVariants as fault
use Rattle.click_classes.specs.declared.values.groups.Group.TheVariants as kind
use Rattle.click_classes.specs.Values.{as_argument, number_in, group, separated, address}
use Rattle.click_base.proofs.Decimals.{digits-decimal, is_run-decimal, spelled-decimal, within_range, within_below, within_above, decimal_in-read}
use Rattle.click_classes.proofs.OfArguments.Separators.{position-behind}
use Rattle.click_classes.proofs.OfArguments.Groups.{preceded, separated_next, separated_last}

-- ---- a number

pub number_in-read : (low high n : ℕ) → n < 2 ^ 64 → number_in low high (decimal n) ≡ as_argument (within low high (Some n))
unfolding number_in
number_in-read low high n h =
    let r = is_run-decimal n h in
    let s = spelled-decimal n h in
    rw (r, s) refl

pub number_in-inside : (low high n : ℕ) → n < 2 ^ 64 → low ≤ n → n ≤ high → number_in low high (decimal n) ≡ Ok n
number_in-inside low high n h p q = number_in-read low high n h ∙ ap as_argument (within_range low high n p q)

pub number_in-below : (low high n : ℕ) → n < 2 ^ 64 → n < low → number_in low high (decimal n) ≡ Err fault.OutOfRange
number_in-below low high n h p = number_in-read low high n h ∙ ap as_argument (within_below low high n p)

pub number_in-above : (low high n : ℕ) → n < 2 ^ 64 → high < n → number_in low high (decimal n) ≡ Err fault.OutOfRange
number_in-above low high n h p = number_in-read low high n h ∙ ap as_argument (within_above low high n p)

-- ---- an address

pub octet : (a : ℕ) → a < 256 → group kind.Octet (decimal a) ≡ Some a
unfolding group
octet a h =
    let short = length-decimal-le 3 a (omega arith) (omega arith) (omega arith) in
    let t : nat_le (length (decimal a)) 3 ≡ true = grind (arith, nat_tests) in
    rw t (decimal_in-read 255 a (omega arith) (omega arith))

-- a number and the byte after it
drop-one_more : (xs ys : List ℕ) (b : ℕ) → drop (length xs + 1) (xs ++ b ∷ ys) ≡ ys
drop-one_more xs ys b = drop-append-add xs (b ∷ ys) 1

joined : (m a : ℕ) (rest : List ℕ) → a < 256 → separated kind.Octet 46 (suc (suc m)) (decimal a ++ 46 ∷ rest) ≡ preceded (a ∷ []) (separated kind.Octet 46 (suc m) rest)
joined m a rest h =
    let at = position-behind digit 46 refl (decimal a) rest (digits-decimal a (omega arith)) in
    let front = ap (λ l. group kind.Octet l) (take-append_seam (decimal a) (46 ∷ rest)) ∙ octet a h in
    separated_next kind.Octet 46 (decimal a ++ 46 ∷ rest) m (length (decimal a)) a at front
    ∙ ap (λ l. preceded (a ∷ []) (separated kind.Octet 46 (suc m) l)) (drop-one_more (decimal a) rest 46)

pub address-read : (a b c d : ℕ) → a < 256 → b < 256 → c < 256 → d < 256
    → address (decimal a ++ codes "." ++ decimal b ++ codes "." ++ decimal c ++ codes "." ++ decimal d) ≡ Ok (a ∷ b ∷ c ∷ d ∷ [])
unfolding address
address-read a b c d ha hb hc hd =
    let last : separated kind.Octet 46 1 (decimal d) ≡ Some (d ∷ []) = separated_last kind.Octet 46 (decimal d) d (octet d hd) in
    let all : separated kind.Octet 46 4 (decimal a ++ 46 ∷ (decimal b ++ 46 ∷ (decimal c ++ 46 ∷ decimal d))) ≡ Some (a ∷ b ∷ c ∷ d ∷ []) =
    joined 2 a (decimal b ++ 46 ∷ (decimal c ++ 46 ∷ decimal d)) ha
    ∙ ap (preceded (a ∷ [])) (joined 1 b (decimal c ++ 46 ∷ decimal d) hb
    ∙ ap (preceded (b ∷ [])) (joined 0 c (decimal d) hc ∙ ap (preceded (c ∷ [])) last)) in
    simp append_assoc (ap (λ o. ok_or o fault.BadAddress) all)
