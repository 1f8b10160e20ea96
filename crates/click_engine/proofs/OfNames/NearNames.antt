-- Lemmas about names that are compared one after another.
use Rattle.std.proofs.Common.{◌≡◌, ℕ, zero, suc, ◌+◌, ◌<◌, refl, sym, ap, ◌∙◌, Bool, true, false, Some, List, [], ◌∷◌, ◌++◌, length, take, drop, get_or, arith}
use Rattle.std.specs.Prelude.{position}
use Rattle.std.specs.List.{position_from}
use Rattle.std.specs.Str.{bytes_eq}
use Rattle.std.specs.declared.vec.Vec.{Vec}
use Rattle.std.specs.declared.alloc.Global.{Global}
use Rattle.std.proofs.lemmas.List.{take-append-le, take_all, length-map, same_lists, get_or_default}
use Rattle.std.proofs.lemmas.Slice.Eq.{bytes_eq-Decides}
use Rattle.std.proofs.lemmas.Iterator.Adapters.{position_from-zero}
use Rattle.click_engine.proofs.OfNames.FirstNames.{is_first, is_later}
use Rattle.click_engine.specs.kept.Tables.{texts}

-- names with different bytes are not equal
pub not_one : (xs ys : List ℕ) → (xs ≡ ys → ⊥) → false ≡ bytes_eq xs ys
not_one xs ys h =
    elim (bytes_eq xs ys) as (λ b. bytes_eq xs ys ≡ b → false ≡ b) [
      | true ↦ λ e. absurd (h ((bytes_eq-Decides xs ys).0 e))
      | false ↦ λ _. refl
    ] refl

-- names of the same length whose bytes are equal are equal
pub are_one : (xs ys : List ℕ) → length xs ≡ length ys → ((i : ℕ) → i < length xs → get_or xs i 0 ≡ get_or ys i 0) → true ≡ bytes_eq xs ys
are_one xs ys long each = sym ((bytes_eq-Decides xs ys).1 (same_lists xs ys long (λ k d h. get_or_default xs k d 0 h ∙ each k h ∙ sym (get_or_default ys k d 0 (omega (arith, h, long))))))

-- the name is not among the first `at` names
abbrev pub FoundFrom : List ℕ → List (List ℕ) → ℕ → Type 0
FoundFrom name names at = position (bytes_eq name) names ≡ position_from (bytes_eq name) at (drop at names)

pub found_first : (name : List ℕ) (names : List (List ℕ)) → FoundFrom name names 0
found_first name names = position_from-zero (bytes_eq name) names

texts-at : (names : List (Vec ℕ Global)) (at : ℕ) (v : Vec ℕ Global) → at < length names → v ≡ get_or names at v → v.items ≡ get_or (texts names) at v.items
texts-at [] at v h e = absurd (omega (arith, h))
texts-at (n ∷ ns) zero v h e = ap (λ (x : Vec ℕ Global). x.items) e
texts-at (n ∷ ns) (suc i) v h e = texts-at ns i v (omega (arith, h)) e

module _ (name : List ℕ) (vecs : List (Vec ℕ Global)) (at : ℕ) (v : Vec ℕ Global) (inside : at < length vecs) (here : v ≡ get_or vecs at v) (so_far : FoundFrom name (texts vecs) at) where
  is_within : at < length (texts vecs)
  is_within = omega (arith, inside, length-map vecs (λ (n : Vec ℕ Global). n.items))

  is_here : v.items ≡ get_or (texts vecs) at []
  is_here = texts-at vecs at v inside here ∙ get_or_default (texts vecs) at v.items [] is_within

  pub found_here : bytes_eq name v.items ≡ true → Some at ≡ position (bytes_eq name) (texts vecs)
  found_here = is_first name (texts vecs) at v.items is_within is_here so_far

  pub found_later : bytes_eq name v.items ≡ false → FoundFrom name (texts vecs) (at + 1)
  found_later = is_later name (texts vecs) at v.items is_within is_here so_far

-- if there are eight names, no further one is among the first eight
pub near_full : (names : List (Vec ℕ Global)) (name : List ℕ) → length names ≡ 8 → texts names ≡ take 8 (texts names ++ name ∷ [])
near_full names name e =
    let long : length (texts names) ≡ 8 = length-map names (λ (n : Vec ℕ Global). n.items) ∙ e in
    sym (take-append-le 8 (texts names) (name ∷ []) (omega (arith, long)) ∙ take_all 8 (texts names) (omega (arith, long)))
