-- The stored instances of scopes: the whole text, and each compound that a path leads to.
use Rattle.std.specs.Prelude.{◌≡◌, ℕ, ◌<◌, List, [], ◌∷◌, ◌++◌, length, slice_get, Option, Some, None}
use Rattle.click_base.specs.declared.class.Class.{Class}
use Rattle.click_text.specs.declared.syntax.Span.{Span}
use Rattle.click_text.specs.declared.syntax.Statement.{Statement}
use Rattle.click_text.specs.declared.syntax.Config.{Config}
use Rattle.click_text.specs.Arguments.{AreArguments}
use Rattle.click_scopes.specs.Scopes.{Scope, whole, inside, Stands}
use Rattle.click_scopes.specs.Classes.{primitive, compound}
use Rattle.click_scopes.specs.Elements.{ScopeElement}
use Rattle.click_scopes.specs.Faults.{elements_of_scope, first_token}
use Rattle.click_expand.specs.Parameters.{Bindings, value_in, IsReplaced}
use Rattle.click_expand.specs.Instances.{PrimitiveElement, AreValues, LeadsTo}
use Rattle.click_scopes.specs.kept.Scoped.{table_place}
use Rattle.click_expand.specs.declared.instances.tree.InstancePart.{InstancePart}
use Rattle.click_expand.specs.declared.instances.tree.InstancePart.TheVariants as part
use Rattle.click_expand.specs.declared.instances.tree.Place.{Place}
use Rattle.click_expand.specs.declared.instances.tree.Instance.{Instance as InstanceKept}

-- An instance of a scope in terms of the definitions: its scope, what is visible before it, and the
-- scopes around it. Also the local names on the way to it, and the arguments of the bodies on the
-- way.
pub record KnownInstance : Type 0 where
  pub scope : Scope
  pub visible : List Statement
  pub enclosing : List Scope
  pub path : List (List ℕ)
  pub bindings : Bindings

abbrev pub the_whole : KnownInstance
the_whole = record { scope = whole; visible = []; enclosing = []; path = []; bindings = [] }

abbrev pub scope_elements_at : Config → KnownInstance → List ScopeElement
scope_elements_at c x = elements_of_scope c x.scope x.visible

-- x is the instance of an element of the instance o, with the arguments of that element
pub record IsInner (c : Config) (o x : KnownInstance) (element : ℕ) : Type 0 where
  pub scope_element : ScopeElement
  pub there : slice_get (scope_elements_at c o) element ≡ Some scope_element
  pub body : ℕ
  pub meaning : scope_element.meaning ≡ Some (compound body)
  pub scope : x.scope ≡ inside body
  pub path : x.path ≡ o.path ++ scope_element.name ∷ []
  pub spans : List Span
  pub arguments : AreArguments scope_element.text spans
  pub values : List (List ℕ)
  pub replaced : AreValues c o.bindings (o.scope ∷ o.enclosing) scope_element.text spans values
  pub bindings : x.bindings ≡ (body, values) ∷ o.bindings

-- the place of an instance: in an instance with a lower index, or none for the whole text
abbrev pub IsEnclosing : Config → List KnownInstance → ℕ → KnownInstance → Option Place → Type 0
IsEnclosing c known u x None = (u ≡ 0) × (x ≡ the_whole)
IsEnclosing c known u x (Some p) = (p.within < u) × ((o : KnownInstance) × (slice_get known p.within ≡ Some o) × IsInner c o x p.element)

-- the lexical parent of an instance: the instance of the scope around its scope; the scopes around
-- have the same arguments there
abbrev pub IsLexicalParent : Config → List KnownInstance → ℕ → KnownInstance → Option ℕ → Type 0
IsLexicalParent c known u x None = x.enclosing ≡ []
IsLexicalParent c known u x (Some w) =
    (w < u) × ((y : KnownInstance) × (slice_get known w ≡ Some y) × (x.enclosing ≡ y.scope ∷ y.enclosing)
    × ((name : List ℕ) → value_in c x.bindings x.enclosing name ≡ value_in c y.bindings (y.scope ∷ y.enclosing) name))

-- a part of an instance: a flat element at that place, or an instance of a body at that place
abbrev pub IsPart : List InstanceKept → List Place → ℕ → ℕ → ScopeElement → InstancePart → Type 0
IsPart instances places u i l (part.PrimitiveElement n) =
    (class : Class) × (l.meaning ≡ Some (primitive class)) × ((p : Place) × (slice_get places n ≡ Some p) × (p.within ≡ u) × (p.element ≡ i))
IsPart instances places u i l (part.Inner v) =
    (b : ℕ) × (l.meaning ≡ Some (compound b)) × ((k : InstanceKept) × (slice_get instances v ≡ Some k) × ((p : Place) × (k.enclosing ≡ Some p) × (p.within ≡ u) × (p.element ≡ i)))

-- one part for each element of the scope
pub record AreParts (c : Config) (instances : List InstanceKept) (places : List Place) (u : ℕ) (x : KnownInstance) (parts : List InstancePart) : Type 0 where
  pub as_many : length parts ≡ length (scope_elements_at c x)
  pub each : (i : ℕ) (l : ScopeElement) → slice_get (scope_elements_at c x) i ≡ Some l → (part : InstancePart) × (slice_get parts i ≡ Some part) × IsPart instances places u i l part

pub record IsInstance (c : Config) (instances : List InstanceKept) (places : List Place) (known : List KnownInstance) (u : ℕ) (k : InstanceKept) (x : KnownInstance) : Type 0 where
  pub stands : Stands c x.scope x.visible x.enclosing
  pub scope : k.scope ≡ table_place c x.scope
  pub leads : LeadsTo c x.path x.scope x.visible
  pub enclosing : IsEnclosing c known u x k.enclosing
  pub lexical_parent : IsLexicalParent c known u x k.lexical_parent
  pub parts : AreParts c instances places u x k.parts
  -- it is the part that its place names
  pub own : (p : Place) → k.enclosing ≡ Some p → (o : InstanceKept) × (slice_get instances p.within ≡ Some o) × (slice_get o.parts p.element ≡ Some (part.Inner u))

-- a flat element is at that place in an instance
pub record IsPrimitiveElement (c : Config) (instances : List InstanceKept) (known : List KnownInstance) (n : ℕ) (p : Place) (f : PrimitiveElement) : Type 0 where
  pub instance_kept : InstanceKept
  pub instance_there : slice_get instances p.within ≡ Some instance_kept
  pub part_there : slice_get instance_kept.parts p.element ≡ Some (part.PrimitiveElement n)
  pub used : KnownInstance
  pub instance_is_there : slice_get known p.within ≡ Some used
  pub scope_element : ScopeElement
  pub scope_element_there : slice_get (scope_elements_at c used) p.element ≡ Some scope_element
  pub path : f.path ≡ used.path ++ scope_element.name ∷ []
  pub meaning : scope_element.meaning ≡ Some (primitive f.class)
  pub text : IsReplaced c used.bindings (used.scope ∷ used.enclosing) scope_element.text f.text
  pub first : f.first ≡ first_token c scope_element.head

-- These are the instances of the configuration's scopes, with the whole text first, and the places
-- of its flat elements in order.
pub record AreInstances (c : Config) (instances : List InstanceKept) (places : List Place) (known : List KnownInstance) (primitive_elements : List PrimitiveElement) : Type 0 where
  pub as_many : length known ≡ length instances
  pub as_many_primitive_elements : length places ≡ length primitive_elements
  pub first : slice_get known 0 ≡ Some the_whole
  pub each : (u : ℕ) (k : InstanceKept) → slice_get instances u ≡ Some k → (x : KnownInstance) × (slice_get known u ≡ Some x) × IsInstance c instances places known u k x
  pub primitive_element : (n : ℕ) (p : Place) → slice_get places n ≡ Some p → (f : PrimitiveElement) × (slice_get primitive_elements n ≡ Some f) × IsPrimitiveElement c instances known n p f
