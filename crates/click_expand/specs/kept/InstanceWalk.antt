-- One step of the walk over the instances.
use Rattle.std.specs.Prelude.{◌≡◌, ◌<◌, ◌++◌, ℕ, List, [], ◌∷◌, length, slice_get, slice_set, eqb, Bool, true, false, Option, Some, None, if◌then◌else◌}
use Rattle.click_scopes.specs.declared.classes.ResolvedClass.{ResolvedClass}
use Rattle.click_scopes.specs.declared.classes.ResolvedClass.TheVariants as class
use Rattle.click_scopes.specs.declared.scope_elements.ScopeElement.{ScopeElement}
use Rattle.click_scopes.specs.declared.scopes.Scope.{Scope as ScopeKept}
use Rattle.click_scopes.specs.kept.Lookups.{parent_by, elements_by}
use Rattle.click_expand.specs.declared.instances.tree.InstancePart.{InstancePart}
use Rattle.click_expand.specs.declared.instances.tree.InstancePart.TheVariants as part
use Rattle.click_expand.specs.declared.instances.tree.Place.{Place}
use Rattle.click_expand.specs.declared.instances.tree.Instance.{Instance}
use Rattle.click_expand.specs.declared.instances.tree.NextElement.{NextElement}
use Rattle.click_expand.specs.declared.instances.tree.NextElement.TheVariants as next
use Rattle.click_expand.specs.declared.instances.tree.Walk.{Walk}

-- what comes next among the elements of a scope
abbrev pub next_class : Option ResolvedClass → NextElement
next_class None = next.Flat
next_class (Some (class.Primitive s)) = next.Flat
next_class (Some (class.Compound b)) = next.Inner b

abbrev pub next_of_scope_element : Option ScopeElement → NextElement
next_of_scope_element None = next.Nothing
next_of_scope_element (Some l) = next_class l.class

abbrev pub next_in : List ScopeElement → ℕ → NextElement
next_in ls i = next_of_scope_element (slice_get ls i)

-- an instance without parts
abbrev pub instance_without_parts : ℕ → Option Place → Option ℕ → Instance
instance_without_parts scope enclosing lexical_parent = record { scope = scope; enclosing = enclosing; lexical_parent = lexical_parent; parts = [] }

-- an instance with one more part
abbrev pub with_part : Instance → InstancePart → Instance
with_part k p = record { scope = k.scope; enclosing = k.enclosing; lexical_parent = k.lexical_parent; parts = k.parts ++ p ∷ [] }

abbrev pub element_place : ℕ → ℕ → Place
element_place within element = record { within = within; element = element }

-- the lexical parent of each instance has a lower index
abbrev pub AreInward : List Instance → Type 0
AreInward instances = (u : ℕ) (k : Instance) (w : ℕ) → slice_get instances u ≡ Some k → k.lexical_parent ≡ Some w → w < u

-- the next instance to look at: none if this one is of the scope
abbrev pub lexical_parent_by : ℕ → Instance → Option ℕ
lexical_parent_by scope k = if eqb k.scope scope then None else k.lexical_parent

-- the lexical parents lead from instance u to this instance, with none of the scope between
pub data Follows (instances : List Instance) (scope : ℕ) : ℕ → ℕ → Type 0 where
  here : (u : ℕ) → Follows instances scope u u
  after_lexical_parent : (u w v : ℕ) (k : Instance) → Follows instances scope u w → slice_get instances w ≡ Some k → lexical_parent_by scope k ≡ Some v → Follows instances scope u v

-- the nearest instance of the scope among the lexical parents of u, or the last of them
pub record IsLexicalParentIn (instances : List Instance) (scope u w : ℕ) : Type 0 where
  pub follows : Follows instances scope u w
  pub instance_kept : Instance
  pub there : slice_get instances w ≡ Some instance_kept
  pub ends : lexical_parent_by scope instance_kept ≡ None

-- A flat element is added to the current instance of the walk.
pub record AddsFlatElement (old new : Walk) (k : Instance) : Type 0 where
  pub instances : new.instances.items ≡ slice_set old.instances.items old.place (with_part k (part.PrimitiveElement (length old.primitive_elements.items)))
  pub primitive_elements : new.primitive_elements.items ≡ old.primitive_elements.items ++ element_place old.place (length k.parts) ∷ []
  pub place : new.place ≡ old.place

-- The instance of a body is added, and becomes the current one.
pub record IsEntered (scopes : List ScopeKept) (body : ℕ) (old new : Walk) (k : Instance) : Type 0 where
  pub lexical_parent : ℕ
  pub lexical_parent_in : IsLexicalParentIn old.instances.items (parent_by (slice_get scopes body)) old.place lexical_parent
  pub instances : new.instances.items ≡
      slice_set old.instances.items old.place (with_part k (part.Inner (length old.instances.items)))
      ++ instance_without_parts body (Some (element_place old.place (length k.parts))) (Some lexical_parent) ∷ []
  pub primitive_elements : new.primitive_elements.items ≡ old.primitive_elements.items
  pub place : new.place ≡ length old.instances.items

-- The walk goes on at the instance around the current one, or ends.
abbrev pub IsLeft : Option Place → Walk → Walk → Bool → Type 0
IsLeft None old new more = (more ≡ false) × (new.instances.items ≡ old.instances.items) × (new.primitive_elements.items ≡ old.primitive_elements.items)
IsLeft (Some p) old new more = (more ≡ true) × (new.instances.items ≡ old.instances.items) × (new.primitive_elements.items ≡ old.primitive_elements.items) × (new.place ≡ p.within)

abbrev pub IsWalkStepBy : List ScopeKept → Walk → Walk → Instance → NextElement → Bool → Type 0
IsWalkStepBy scopes old new k (next.Inner b) more = (more ≡ true) × IsEntered scopes b old new k
IsWalkStepBy scopes old new k next.Flat more = (more ≡ true) × AddsFlatElement old new k
IsWalkStepBy scopes old new k next.Nothing more = IsLeft k.enclosing old new more

-- one step of the walk, and whether more follow
abbrev pub IsWalkStep : List ScopeKept → Walk → Walk → Bool → Type 0
IsWalkStep scopes old new more =
    (k : Instance) × (slice_get old.instances.items old.place ≡ Some k) × IsWalkStepBy scopes old new k (next_in (elements_by (slice_get scopes k.scope)) (length k.parts)) more
