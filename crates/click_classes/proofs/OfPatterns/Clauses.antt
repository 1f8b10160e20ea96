-- Lemmas about the clauses of patterns.
use Rattle.std.proofs.Common.{◌≡◌, ◌==◌, ℕ, ◌+◌, ◌<◌, ◌%◌, List, length, take, drop, Bool, true, false, Some, None, Err, refl, arith}
use Rattle.std.specs.Prelude.{◌&&◌, nat_le, position, replicate}
use Rattle.std.specs.List.{list_all}
use Rattle.std.proofs.lemmas.Bool.Decides.{nat_tests}
use Rattle.click_base.specs.Numbers.{decimal_in}
use Rattle.click_classes.specs.declared.fault.ArgFault.TheVariants as fault
use Rattle.click_classes.specs.Patterns.{are_digits, pattern_digit, clause_of, unsigned}

and_false : (a b : Bool) → ((a && false) && b) ≡ false
and_false true b = refl
and_false false b = refl

too_many : (ds : List ℕ) → 128 < length ds → are_digits ds ≡ false
too_many ds h =
    let e : nat_le (length ds) 128 ≡ false = grind (arith, nat_tests) in
    rw e (and_false ((length ds % 2 == 0) && nat_le 2 (length ds)) (list_all pattern_digit ds))

-- a clause has at most 128 digits
pub clause_of-long : (negated : Bool) (offset : ℕ) (ds ms : List ℕ) → 128 < length ds → clause_of negated offset ds ms ≡ Err fault.BadEntry
unfolding clause_of
clause_of-long negated offset ds ms h = let e = too_many ds h in rw e refl

module _ (negated : Bool) (text : List ℕ) (at offset : ℕ) (slash : position (λ b. b == 47) text ≡ Some at) (number : decimal_in 1599 (take at text) ≡ Some offset) where
  pub unsigned_masked : (end : ℕ) → position (λ b. b == 37) (drop (at + 1) text) ≡ Some end → unsigned negated text ≡ clause_of negated offset (take end (drop (at + 1) text)) (drop (end + 1) (drop (at + 1) text))
  unsigned_masked end percent = rw (slash, number, percent) refl

  pub unsigned_full : position (λ b. b == 37) (drop (at + 1) text) ≡ None → unsigned negated text ≡ clause_of negated offset (drop (at + 1) text) (replicate (length (drop (at + 1) text)) 102)
  unsigned_full percent = rw (slash, number, percent) refl
