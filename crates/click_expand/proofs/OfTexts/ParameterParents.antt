-- The value of a parameter along the instances of the scopes around.
use Rattle.std.proofs.Common.{◌≡◌, ℕ, List, ◌∷◌, Option, Some}
use Rattle.std.specs.List.{slice_get}
use Rattle.click_text.specs.declared.syntax.Config.{Config}
use Rattle.click_expand.specs.Parameters.{value_in}
use Rattle.click_expand.specs.Instances.{PrimitiveElement}
use Rattle.click_expand.specs.kept.KnownInstances.{KnownInstance, AreInstances}
use Rattle.click_expand.specs.declared.instances.tree.Place.{Place}
use Rattle.click_expand.specs.declared.instances.tree.Instance.{Instance as InstanceKept}

abbrev pub value-of : Config → KnownInstance → List ℕ → Option (List ℕ)
value-of c x name = value_in c x.bindings (x.scope ∷ x.enclosing) name

-- a parameter has the same value at both instances
abbrev pub SameValue : Config → List InstanceKept → ℕ → ℕ → List ℕ → Type 0
SameValue c instances from at name =
    (places : List Place) (known : List KnownInstance) (primitive_elements : List PrimitiveElement) (x : KnownInstance) → AreInstances c instances places known primitive_elements → slice_get known from ≡ Some x →
    (y : KnownInstance) × (slice_get known at ≡ Some y) × (value-of c x name ≡ value-of c y name)
