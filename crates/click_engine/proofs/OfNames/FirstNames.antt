-- The table of checksums leads to the first element of each name.
use Rattle.std.proofs.Common.{◌≡◌, ◌∙◌, ℕ, zero, suc, ◌+◌, ◌-◌, ◌<◌, ◌≤◌, refl, sym, ap, arith, List, [], ◌∷◌, length, drop, get_or, Bool, true, false, cond, Option, Some, None, nat_eq, position}
use Rattle.std.specs.Prelude.{if◌then◌else◌}
use Rattle.std.specs.Str.{bytes_eq}
use Rattle.std.specs.List.{position_from}
use Rattle.std.proofs.lemmas.Bool.{false≢true}
use Rattle.std.proofs.lemmas.Bool.Decides.{nat_tests}
use Rattle.std.proofs.lemmas.Iterator.Adapters.{position_from-zero}
use Rattle.std.proofs.lemmas.List.{drop_more}
use Rattle.std.proofs.lemmas.Slice.Eq.{bytes_eq-Decides}
use Rattle.click_engine.specs.kept.Sums.{first_with_sum, sum_of}

-- the name at `at` comes before those after it
pub one_more : (names : List (List ℕ)) (at : ℕ) (n : List ℕ) (sum : ℕ) → at < length names → n ≡ get_or names at []
    → cond (nat_eq (sum_of n) sum) (Some at) (first_with_sum sum (at + 1) (drop (at + 1) names)) ≡ first_with_sum sum at (drop at names)
one_more names at n sum inside here =
    ap (λ m. cond (nat_eq (sum_of m) sum) (Some at) (first_with_sum sum (at + 1) (drop (at + 1) names))) here
    ∙ sym (ap (first_with_sum sum at) (drop_more names at [] inside))

some≢none : (p : ℕ) → Some p ≡ None → ⊥
some≢none p h = absurd (cc h)

-- an element that was found is among these
pub within : (sum at : ℕ) (ns : List (List ℕ)) (p : ℕ) → first_with_sum sum at ns ≡ Some p → (at ≤ p) × (p < at + length ns)
within sum at [] p h = absurd (cc h)
within sum at (n ∷ ns) p h = go (nat_eq (sum_of n) sum) h (within sum (at + 1) ns p)
  where
    go : (b : Bool) → (if b then Some at else first_with_sum sum (at + 1) ns) ≡ Some p
        → (first_with_sum sum (at + 1) ns ≡ Some p → (at + 1 ≤ p) × (p < at + 1 + length ns)) → (at ≤ p) × (p < at + suc (length ns))
    go true e later = let is : at ≡ p = cc e in (omega (arith, is), omega (arith, is))
    go false e later = let (low, high) = later e in (omega (arith, low), omega (arith, high))

module _ (name : List ℕ) where
  -- a name with another checksum is another name
  apart : (n : List ℕ) → nat_eq (sum_of n) (sum_of name) ≡ false → bytes_eq name n ≡ false
  apart n h = go (bytes_eq name n) refl
    where
      go : (b : Bool) → bytes_eq name n ≡ b → b ≡ false
      go false e = refl
      go true e =
          let same : n ≡ name = sym ((bytes_eq-Decides name n).0 e) in
          let equal : nat_eq (sum_of name) (sum_of name) ≡ true = grind (arith, nat_tests) in
          absurd (false≢true (sym h ∙ ap (λ m. nat_eq (sum_of m) (sum_of name)) same ∙ equal))

  none_from : (at : ℕ) (ns : List (List ℕ)) → first_with_sum (sum_of name) at ns ≡ None → position_from (bytes_eq name) at ns ≡ None
  none_from at [] h = refl
  none_from at (n ∷ ns) h = go (nat_eq (sum_of n) (sum_of name)) refl h (none_from (at + 1) ns)
    where
      go : (b : Bool) → nat_eq (sum_of n) (sum_of name) ≡ b → (if b then Some at else first_with_sum (sum_of name) (at + 1) ns) ≡ None
          → (first_with_sum (sum_of name) (at + 1) ns ≡ None → position_from (bytes_eq name) (at + 1) ns ≡ None)
          → cond (bytes_eq name n) (Some at) (position_from (bytes_eq name) (at + 1) ns) ≡ None
      go true e k later = absurd (cc k)
      go false e k later = ap (λ b. cond b (Some at) (position_from (bytes_eq name) (at + 1) ns)) (apart n e) ∙ later k

  here_from : (at : ℕ) (ns : List (List ℕ)) (p : ℕ) → first_with_sum (sum_of name) at ns ≡ Some p → get_or ns (p - at) [] ≡ name → position_from (bytes_eq name) at ns ≡ Some p
  here_from at [] p h same = absurd (cc h)
  here_from at (n ∷ ns) p h same = go (nat_eq (sum_of n) (sum_of name)) refl h (here_from (at + 1) ns p)
    where
      go : (b : Bool) → nat_eq (sum_of n) (sum_of name) ≡ b → (if b then Some at else first_with_sum (sum_of name) (at + 1) ns) ≡ Some p
          → (first_with_sum (sum_of name) (at + 1) ns ≡ Some p → get_or ns (p - (at + 1)) [] ≡ name → position_from (bytes_eq name) (at + 1) ns ≡ Some p)
          → cond (bytes_eq name n) (Some at) (position_from (bytes_eq name) (at + 1) ns) ≡ Some p
      go true e k next =
          let is : at ≡ p = cc k in
          let none : 0 ≡ p - at = omega (arith, is) in
          let first : n ≡ name = ap (λ d. get_or (n ∷ ns) d []) none ∙ same in
          ap (λ b. cond b (Some at) (position_from (bytes_eq name) (at + 1) ns)) ((bytes_eq-Decides name n).1 (sym first)) ∙ k
      go false e k next =
          let (low, _) = within (sum_of name) (at + 1) ns p k in
          let one : suc (p - (at + 1)) ≡ p - at = omega (arith, low) in
          let later : get_or ns (p - (at + 1)) [] ≡ name = ap (λ d. get_or (n ∷ ns) d []) one ∙ same in
          ap (λ b. cond b (Some at) (position_from (bytes_eq name) (at + 1) ns)) (apart n e) ∙ next k later

  -- no element has the checksum of the name
  pub no_sum : (ns : List (List ℕ)) → first_with_sum (sum_of name) 0 ns ≡ None → None ≡ position (bytes_eq name) ns
  no_sum ns h = sym (position_from-zero (bytes_eq name) ns ∙ none_from 0 ns h)

  -- the first element with the checksum of the name has the name
  pub first_sum : (ns : List (List ℕ)) (p : ℕ) → first_with_sum (sum_of name) 0 ns ≡ Some p → get_or ns p [] ≡ name → Some p ≡ position (bytes_eq name) ns
  first_sum ns p h same =
      let all : p - 0 ≡ p = omega arith in
      sym (position_from-zero (bytes_eq name) ns ∙ here_from 0 ns p h (ap (λ d. get_or ns d []) all ∙ same))

-- the name at `at` is the first of this name, or it is not
module _ (name : List ℕ) (names : List (List ℕ)) (at : ℕ) (n : List ℕ) (inside : at < length names) (here : n ≡ get_or names at [])
    (so_far : position (bytes_eq name) names ≡ position_from (bytes_eq name) at (drop at names)) where
  by_first : (b : Bool) → bytes_eq name n ≡ b → position (bytes_eq name) names ≡ cond b (Some at) (position_from (bytes_eq name) (at + 1) (drop (at + 1) names))
  by_first b e =
      let rest = position_from (bytes_eq name) (at + 1) (drop (at + 1) names) in
      so_far ∙ ap (λ ys. position_from (bytes_eq name) at ys) (drop_more names at [] inside)
      ∙ ap (λ x. cond (bytes_eq name x) (Some at) rest) (sym here) ∙ ap (λ t. cond t (Some at) rest) e

  pub is_first : bytes_eq name n ≡ true → Some at ≡ position (bytes_eq name) names
  is_first e = sym (by_first true e)

  pub is_later : bytes_eq name n ≡ false → position (bytes_eq name) names ≡ position_from (bytes_eq name) (at + 1) (drop (at + 1) names)
  is_later e = by_first false e
