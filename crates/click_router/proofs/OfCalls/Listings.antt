-- The listing of a router.
use Rattle.std.proofs.Common.{◌≡◌, ℕ, List, map, Option, Some, None, slice_get, refl, ◌∙◌}
use Rattle.std.specs.Prelude.{option_and_then, option_map}
use Rattle.std.proofs.lemmas.Option.{slice_get-map}
use Rattle.click_classes.specs.State.{class}
use Rattle.click_engine.specs.declared.run_state.Element.{Element}
use Rattle.click_router.specs.One.{found, class_named, listing_of, place_of}
use Rattle.click_router.specs.State.{RouterState}

by_place : (p : Option ℕ) (es : List Element) →
    option_and_then (slice_get (map (λ (e : Element). class e.state) es)) p ≡ option_map (λ (found : ℕ × Element). class found.1.state) (option_and_then (λ at. option_map (λ (e : Element). (at, e)) (slice_get es at)) p)
by_place None es = refl
by_place (Some at) es = slice_get-map (λ (e : Element). class e.state) es at ∙ inner (slice_get es at) where
  inner : (e : Option Element) → option_map (λ (e : Element). class e.state) e ≡ option_map (λ (found : ℕ × Element). class found.1.state) (option_map (λ (e : Element). (at, e)) e)
  inner None = refl
  inner (Some e) = refl

-- the class of a name is that of the element with the name
pub class_found : (s : RouterState) (name : List ℕ) → class_named (listing_of s) name ≡ option_map (λ (found : ℕ × Element). class found.1.state) (found s name)
class_found s name = by_place (place_of s name) s.plant.elements
