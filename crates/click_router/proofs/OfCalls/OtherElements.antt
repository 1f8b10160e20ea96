-- A change of one element does not change how another one is found.
use Rattle.std.proofs.Common.{◌≡◌, ℕ, zero, suc, List, [], ◌∷◌, Option, None, Some, true, slice_get, slice_set, option_map, refl, ap}
use Rattle.std.specs.Prelude.{option_and_then}
use Rattle.std.specs.List.{list_any}
use Rattle.click_engine.specs.declared.run_state.Element.{Element}
use Rattle.click_router.specs.State.{RouterState}
use Rattle.click_base.specs.Dotted.{is_dot}
use Rattle.click_router.specs.One.{read, read_found, before, after, place_of, with_element}

other_place : {A : Type 0} (xs : List A) (i k : ℕ) (x : A) → (k ≡ i → ⊥) → slice_get (slice_set xs i x) k ≡ slice_get xs k
other_place [] i k x ne = refl
other_place (y ∷ ys) zero zero x ne = absurd (ne refl)
other_place (y ∷ ys) zero (suc k) x ne = refl
other_place (y ∷ ys) (suc i) zero x ne = refl
other_place (y ∷ ys) (suc i) (suc k) x ne = other_place ys i k x (λ e. ne (ap suc e))

same_found : (es : List Element) (at : ℕ) (x : Element) (o : Option ℕ) → (o ≡ Some at → ⊥)
    → option_and_then {U = ℕ × Element} (λ p. option_map (λ (e : Element). (p, e)) (slice_get (slice_set es at x) p)) o ≡ option_and_then {U = ℕ × Element} (λ p. option_map (λ (e : Element). (p, e)) (slice_get es p)) o
same_found es at x None ne = refl
same_found es at x (Some p) ne = ap (option_map (λ (e : Element). (p, e))) (other_place es at p x (λ e. ne (ap Some e)))

pub read_one_element : (s : RouterState) (at : ℕ) (other : Element) (name text : List ℕ) → list_any is_dot name ≡ true → (place_of s (before name) ≡ Some at → ⊥)
    → read (record s { plant = with_element s.plant at other }) name text ≡ read s name text
read_one_element s at other name text dotted ne =
    rw dotted (ap (λ f. read_found f (after name) text) (same_found s.plant.elements at other (place_of s (before name)) ne))
