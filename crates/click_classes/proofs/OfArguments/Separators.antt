-- Lemmas about the first index of a separator: a byte that ends bytes of another kind.
use Rattle.std.proofs.Common.{◌≡◌, ◌==◌, ℕ, ◌+◌, ◌<◌, List, [], ◌∷◌, ◌++◌, length, Bool, true, false, Some, None, refl, ap, ◌∙◌, inl, inr, arith, length-append}
use Rattle.std.specs.Prelude.{position, ◌&&◌, nat_lt}
use Rattle.std.specs.List.{list_all, position_or_len}
use Rattle.std.proofs.lemmas.Bool.{cases_Bool}
use Rattle.std.proofs.lemmas.Bool.Decides.{nat_tests}

both : (a b : Bool) → (a && b) ≡ true → (a ≡ true) × (b ≡ true)
both true b e = (refl, e)
both false b e = cc

-- the test fails for the separator
module _ (test : ℕ → Bool) (separator : ℕ) (fails : test separator ≡ false) where
  other : (x : ℕ) → test x ≡ true → (x == separator) ≡ false
  other x passes = elim (cases_Bool (x == separator)) [
    | inl t ↦ let same : x ≡ separator = grind (arith, nat_tests) in let e : test x ≡ false = ap test same ∙ fails in cc
    | inr f ↦ f
  ]

  before : (xs ys : List ℕ) → list_all test xs ≡ true → position_or_len (λ b. b == separator) (xs ++ separator ∷ ys) ≡ length xs
  before [] ys h = let e : (separator == separator) ≡ true = grind (arith, nat_tests) in rw e refl
  before (x ∷ xs) ys h =
      let p = both (test x) (list_all test xs) h in
      let e = other x p.0 in
      let rest = before xs ys p.1 in
      rw (e, rest) (omega arith)

  -- the first index of a byte
  pub position-behind : (xs ys : List ℕ) → list_all test xs ≡ true → position (λ b. b == separator) (xs ++ separator ∷ ys) ≡ Some (length xs)
  position-behind xs ys h =
      let e = before xs ys h in
      let inside : length xs < length (xs ++ separator ∷ ys) = omega (arith, length-append xs (separator ∷ ys)) in
      let t : nat_lt (length xs) (length (xs ++ separator ∷ ys)) ≡ true = grind (arith, nat_tests) in
      rw (e, t) refl

  none : (xs : List ℕ) → list_all test xs ≡ true → position_or_len (λ b. b == separator) xs ≡ length xs
  none [] h = refl
  none (x ∷ xs) h =
      let p = both (test x) (list_all test xs) h in
      let e = other x p.0 in
      let rest = none xs p.1 in
      rw (e, rest) (omega arith)

  -- a separator that no byte equals has no index
  pub position-none : (xs : List ℕ) → list_all test xs ≡ true → position (λ b. b == separator) xs ≡ None
  position-none xs h =
      let e = none xs h in
      let f : nat_lt (length xs) (length xs) ≡ false = grind (arith, nat_tests) in
      rw (e, f) refl
