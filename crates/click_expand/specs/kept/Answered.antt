-- The results of the code on the way from a sound configuration to its flat form. Sound means
-- without a misuse.
use Rattle.std.specs.Prelude.{◌≡◌, ℕ, List, [], ◌∷◌, ◌++◌, map, All, Contains, true, false, slice_get, Option, Some, None}
use Rattle.click_text.specs.declared.syntax.Head.{Head}
use Rattle.click_text.specs.declared.syntax.Config.{Config}
use Rattle.click_expand.specs.Instances.{PrimitiveElement}
use Rattle.click_expand.specs.Flat.{WithinLimits, AreConnections, Exceeds, AreDistinct, is_whole, flat_name, flat_names, flat_element, expand_fault, no_memory, IsFlatFault}
use Rattle.click_expand.specs.declared.fault.FaultKind.TheVariants as kind
use Rattle.click_scopes.specs.declared.fault.WrongUse.TheVariants as wrong_use
use Rattle.click_expand.specs.declared.flat.Flat.{Flat}
use Rattle.click_expand.specs.declared.fault.ExpandFault.{ExpandFault}
use Rattle.click_scopes.specs.declared.analysis.ScopeFault.{ScopeFault}
use Rattle.click_scopes.specs.declared.analysis.ScopeFault.TheVariants as scope_fault
use Rattle.click_scopes.specs.kept.Lookups.{scope_head}
use Rattle.click_scopes.specs.declared.scopes.Scope.{Scope as ScopeKept}
use Rattle.click_expand.specs.declared.instances.tree.Place.{Place}
use Rattle.click_expand.specs.declared.instances.tree.Instance.{Instance as InstanceKept}
use Rattle.click_expand.specs.declared.flattening.Refusal.{Refusal}
use Rattle.click_expand.specs.declared.flattening.Refusal.TheVariants as refused

-- the elements and connections are within the limits; a name may still be repeated, or a text
-- broken
pub record IsExpanded (c : Config) (primitive_elements : List PrimitiveElement) (paths : ℕ) (f : Flat) : Type 0 where
  pub elements : f.elements ≡ map flat_element primitive_elements
  pub connections : AreConnections c primitive_elements f.connections
  pub limits : WithinLimits primitive_elements paths f.connections

abbrev pub IsExpandedOr : Config → List PrimitiveElement → ℕ → Option Flat → Type 0
IsExpandedOr c primitive_elements paths None = Exceeds c primitive_elements paths
IsExpandedOr c primitive_elements paths (Some f) = IsExpanded c primitive_elements paths f

-- why these elements are refused: the first one with the name of an earlier one, or else the first
-- one with a broken text
abbrev pub IsRefusedOf : List PrimitiveElement → Option Refusal → Type 0
IsRefusedOf primitive_elements None = AreDistinct (flat_names primitive_elements) × All (λ (l : PrimitiveElement). is_whole l.text ≡ true) primitive_elements
IsRefusedOf primitive_elements (Some refused.NoMemory) = ⊥
IsRefusedOf primitive_elements (Some (refused.At k s)) =
    (k ≡ kind.Use wrong_use.DeclaredTwice) × ((front back : List PrimitiveElement) × (l : PrimitiveElement) × (primitive_elements ≡ front ++ l ∷ back) × AreDistinct (flat_names front)
    × Contains (flat_names front) (flat_name l.path) × (s ≡ l.first))
IsRefusedOf primitive_elements (Some refused.TooMany) = ⊥
IsRefusedOf primitive_elements (Some (refused.Broken name)) =
    AreDistinct (flat_names primitive_elements) × ((front back : List PrimitiveElement) × (l : PrimitiveElement) × (primitive_elements ≡ front ++ l ∷ back)
    × All (λ (k : PrimitiveElement). is_whole k.text ≡ true) front × (is_whole l.text ≡ false) × (name ≡ flat_name l.path))

-- why there is no flat form
abbrev pub IsRefused : Config → Refusal → Type 0
IsRefused c refused.NoMemory = Unit {0}
IsRefused c (refused.At k s) = IsFlatFault c (expand_fault k (Some s) [])
IsRefused c refused.TooMany = IsFlatFault c (expand_fault kind.TooMany None [])
IsRefused c (refused.Broken name) = IsFlatFault c (expand_fault kind.BrokenText None name)

-- the refusal for a fault of the scopes
abbrev pub refusal_for : ScopeFault → Refusal
refusal_for scope_fault.NoMemory = refused.NoMemory
refusal_for (scope_fault.Wrong w) = refused.At (kind.Use w.kind) w.span

-- the fault that reports a refusal
abbrev pub fault_for : Refusal → ExpandFault
fault_for refused.NoMemory = no_memory
fault_for (refused.At k s) = expand_fault k (Some s) []
fault_for refused.TooMany = expand_fault kind.TooMany None []
fault_for (refused.Broken name) = expand_fault kind.BrokenText None name

-- the head of the flat element at an index
abbrev pub instance_head : List ScopeKept → ℕ → Option InstanceKept → Option Head
instance_head scopes i None = None
instance_head scopes i (Some k) = scope_head i (slice_get scopes k.scope)

abbrev pub place_head : List ScopeKept → List InstanceKept → Option Place → Option Head
place_head scopes instances None = None
place_head scopes instances (Some p) = instance_head scopes p.element (slice_get instances p.within)

abbrev pub head_in : List ScopeKept → List InstanceKept → List Place → ℕ → Option Head
head_in scopes instances places n = place_head scopes instances (slice_get places n)
