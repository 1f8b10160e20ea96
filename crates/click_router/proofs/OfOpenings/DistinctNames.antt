-- The names of the elements of a flat form are distinct, so each element is found by its name.
use Rattle.std.proofs.Common.{◌≡◌, ℕ, zero, suc, ◌+◌, ◌<◌, List, [], ◌∷◌, map, length, Bool, true, false, cond, Option, Some, slice_get, get_or, position, Contains, refl, sym, ap, ◌∙◌, subst, arith}
use Rattle.std.specs.List.{position_from}
use Rattle.std.specs.Str.{bytes_eq}
use Rattle.std.proofs.lemmas.Iterator.Adapters.{position_from-zero}
use Rattle.std.proofs.lemmas.Slice.Eq.{bytes_eq-Decides}
use Rattle.click_text.specs.declared.syntax.Config.{Config}
use Rattle.click_expand.specs.Instances.{PrimitiveElement}
use Rattle.click_expand.specs.Flat.{AreDistinct, IsFlat, flat_names, flat_element}
use Rattle.click_expand.specs.declared.flat.Flat.{Flat}
use Rattle.click_ports.specs.Net.{names_of}

names_primitive_elements : (primitive_elements : List PrimitiveElement) → names_of (map flat_element primitive_elements) ≡ flat_names primitive_elements
names_primitive_elements [] = refl
names_primitive_elements (l ∷ primitive_elements) = ap (λ ns. (flat_element l).name ∷ ns) (names_primitive_elements primitive_elements)

pub flat-distinct : (c : Config) (f : Flat) → IsFlat c f → AreDistinct (names_of f.elements)
flat-distinct c f h = subst AreDistinct (sym (ap names_of h.elements ∙ names_primitive_elements h.primitive_elements)) h.distinct

pub inside : {X : Type 0} (xs : List X) (at : ℕ) (x : X) → slice_get xs at ≡ Some x → at < length xs
inside [] at x h = absurd (let y = h in cc)
inside (y ∷ xs) zero x h = omega arith
inside (y ∷ xs) (suc at) x h = let l = inside xs at x h in omega (arith, l)

pub gets : {X : Type 0} (xs : List X) (at : ℕ) → at < length xs → (x : X) × (slice_get xs at ≡ Some x)
gets [] at l = absurd (omega (arith, l))
gets (x ∷ xs) zero l = (x, refl)
gets (x ∷ xs) (suc at) l = gets xs at (omega (arith, l))

read : (xs : List (List ℕ)) (at : ℕ) (x d : List ℕ) → slice_get xs at ≡ Some x → get_or xs at d ≡ x
read [] at x d h = absurd (let y = h in cc)
read (y ∷ xs) zero x d h = let k = h in cc
read (y ∷ xs) (suc at) x d h = read xs at x d h

first : (b : Bool) (name n : List ℕ) (k : ℕ) (o : Option ℕ) → bytes_eq name n ≡ b → n ≡ name → cond b (Some k) o ≡ Some (k + 0)
first true name n k o t is = let e : k ≡ k + 0 = omega arith in ap Some e
first false name n k o t is = absurd (let x : bytes_eq name n ≡ true = (bytes_eq-Decides name n).1 (sym is) in let y = t in cc)

later : (b : Bool) (name n : List ℕ) (k : ℕ) (o : Option ℕ) → bytes_eq name n ≡ b → (name ≡ n → ⊥) → cond b (Some k) o ≡ o
later true name n k o t apart = absurd (apart ((bytes_eq-Decides name n).0 t))
later false name n k o t apart = refl

from : (names : List (List ℕ)) (k at : ℕ) (name : List ℕ) → AreDistinct names → slice_get names at ≡ Some name → position_from (bytes_eq name) k names ≡ Some (k + at)
from [] k at name d h = absurd (let x = h in cc)
from (n ∷ ns) k zero name d h = first (bytes_eq name n) name n k (position_from (bytes_eq name) (k + 1) ns) refl (let x = h in cc)
from (n ∷ ns) k (suc at) name d h =
    let there : Contains ns name = (at, inside ns at name h, read ns at name name h) in
    let apart : name ≡ n → ⊥ = λ is. d.0 (subst (Contains ns) is there) in
    let e : (k + 1) + at ≡ k + suc at = omega arith in
    later (bytes_eq name n) name n k (position_from (bytes_eq name) (k + 1) ns) refl apart ∙ (from ns (k + 1) at name d.1 h ∙ ap Some e)

-- a name among distinct ones is found at its index
pub at_its_place : (names : List (List ℕ)) (at : ℕ) (name : List ℕ) → AreDistinct names → slice_get names at ≡ Some name → position (bytes_eq name) names ≡ Some at
at_its_place names at name d h = let e : 0 + at ≡ at = omega arith in position_from-zero (bytes_eq name) names ∙ (from names 0 at name d h ∙ ap Some e)
