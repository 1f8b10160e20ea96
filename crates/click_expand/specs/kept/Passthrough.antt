-- Pass-through inputs: connections from such an input of a compound lead to its outputs, with no
-- flat element between.
use Rattle.std.specs.Prelude.{◌≡◌, ◌⊎◌, ℕ, ◌<◌, List, [], ◌∷◌, length, slice_get, Contains, nat_eq, Option, Some, None}
use Rattle.std.specs.Map.{lookup}
use Rattle.click_scopes.specs.declared.written_connections.Owner.TheVariants as owner
use Rattle.click_expand.specs.declared.connections.connection_index.ScopePort.{ScopePort}
use Rattle.click_expand.specs.declared.connections.connection_index.ConnectionIndex.{ConnectionIndex}
use Rattle.click_expand.specs.declared.instances.tree.InstancePart.TheVariants as part
use Rattle.click_expand.specs.declared.instances.tree.Place.{Place}
use Rattle.click_expand.specs.declared.instances.tree.Instance.{Instance}
use Rattle.click_expand.specs.declared.connections.passthrough.Shortcut.{Shortcut}
use Rattle.click_expand.specs.declared.connections.passthrough.ScopeShortcuts.{ScopeShortcuts}
use Rattle.click_expand.specs.kept.Wiring.{scope_port, same_port, ends_in, Gains, HasAll}

abbrev pub index_ends : Option ConnectionIndex → ScopePort → List ScopePort
index_ends None a = []
index_ends (Some x) a = ends_in x.ends.entries a

-- the ports to which the connections of a scope lead from one of its ports
abbrev pub ends_at : List ConnectionIndex → ℕ → ScopePort → List ScopePort
ends_at xs s a = index_ends (slice_get xs s) a

-- Connections lead from one port of a scope to another, through no flat element; compounds between
-- are passed through.
pub data LeadsInScope (ends : ℕ → ScopePort → List ScopePort) (body : ℕ → ℕ → Option ℕ) : ℕ → ScopePort → ScopePort → Type 0 where
  by_one_connection : (s : ℕ) (a b : ScopePort) → Contains (ends s a) b → LeadsInScope ends body s a b
  over : (s i n inner m : ℕ) (a b : ScopePort) → LeadsInScope ends body s a (scope_port (owner.Element i) n) → body s i ≡ Some inner →
      LeadsInScope ends body inner (scope_port owner.Input n) (scope_port owner.Output m) → LeadsInScope ends body s (scope_port (owner.Element i) m) b → LeadsInScope ends body s a b

-- From a port of a scope, connections lead to a flat element of the scope, or of a compound in it.
pub data Lands (ends : ℕ → ScopePort → List ScopePort) (body : ℕ → ℕ → Option ℕ) : ℕ → ScopePort → Type 0 where
  on_element : (s i n : ℕ) (a : ScopePort) → LeadsInScope ends body s a (scope_port (owner.Element i) n) → body s i ≡ None → Lands ends body s a
  inside_compound : (s i n inner : ℕ) (a : ScopePort) → LeadsInScope ends body s a (scope_port (owner.Element i) n) → body s i ≡ Some inner → Lands ends body inner (scope_port owner.Input n) → Lands ends body s a

-- The input n of a body is a pass-through input, and leads to exactly these outputs.
pub record LeadsThrough (ends : ℕ → ScopePort → List ScopePort) (body : ℕ → ℕ → Option ℕ) (s n : ℕ) (outs : List ScopePort) : Type 0 where
  pub sound : (p : ScopePort) → Contains outs p → (m : ℕ) × (p ≡ scope_port owner.Output m) × LeadsInScope ends body s (scope_port owner.Input n) p
  pub complete : (m : ℕ) → LeadsInScope ends body s (scope_port owner.Input n) (scope_port owner.Output m) → Contains outs (scope_port owner.Output m)
  pub no_landing : Lands ends body s (scope_port owner.Input n) → ⊥

-- The second port stands in for the first: it is the same, or both are pass-through inputs of one
-- compound that lead to the same outputs.
pub data StandsIn (ends : ℕ → ScopePort → List ScopePort) (body : ℕ → ℕ → Option ℕ) (short : ℕ → ScopePort → List ScopePort) (s : ℕ) : ScopePort → ScopePort → Type 0 where
  same : (p : ScopePort) → StandsIn ends body short s p p
  alike : (i n k inner : ℕ) → body s i ≡ Some inner → LeadsThrough ends body inner n (short inner (scope_port owner.Input k)) →
      StandsIn ends body short s (scope_port (owner.Element i) n) (scope_port (owner.Element i) k)

-- each of the ports ps has a stand-in among qs, and each of qs is a stand-in for one of ps
pub record AreStoodFor (ends : ℕ → ScopePort → List ScopePort) (body : ℕ → ℕ → Option ℕ) (short : ℕ → ScopePort → List ScopePort) (s : ℕ) (ps qs : List ScopePort) : Type 0 where
  pub each : (p : ScopePort) → Contains ps p → (q : ScopePort) × Contains qs q × StandsIn ends body short s p q
  pub back : (q : ScopePort) → Contains qs q → (p : ScopePort) × Contains ps p × StandsIn ends body short s p q

-- The connections of a scope, except that other ports may stand in for those that they lead to, and
-- that a pass-through input may lead directly to its outputs.
abbrev pub IsShortened : (ends : ℕ → ScopePort → List ScopePort) (body : ℕ → ℕ → Option ℕ) (short : ℕ → ScopePort → List ScopePort) → ℕ → Type 0
IsShortened ends body short s =
    (a : ScopePort) → AreStoodFor ends body short s (ends s a) (short s a) ⊎ ((n : ℕ) × (a ≡ scope_port owner.Input n) × LeadsThrough ends body s n (short s a))

-- What holds of the scopes with these shortened connections.
pub record AreShortened (ends : ℕ → ScopePort → List ScopePort) (body : ℕ → ℕ → Option ℕ) (short : ℕ → ScopePort → List ScopePort) (done : List ConnectionIndex) : Type 0 where
  pub is : (s : ℕ) (a : ScopePort) → s < length done → short s a ≡ ends_at done s a
  pub each : (s : ℕ) → s < length done → IsShortened ends body short s
  pub alike : (s : ℕ) (x : ConnectionIndex) → slice_get done s ≡ Some x → (n k : ℕ) → lookup (nat_eq n) x.alike.entries ≡ Some k → LeadsThrough ends body s n (short s (scope_port owner.Input k))

-- p is an output of element i, with the number of one of `outs`
abbrev pub IsOutputOf : ℕ → List ScopePort → ScopePort → Type 0
IsOutputOf i outs p = (q : ScopePort) × Contains outs q × (p ≡ scope_port (owner.Element i) q.number)

-- one of these ends is an input of an element whose body leads from there to an output; p is the
-- element's output with that number
pub record GoesOver (body : ℕ → ℕ → Option ℕ) (short : ℕ → ScopePort → List ScopePort) (s : ℕ) (es : List ScopePort) (p : ScopePort) : Type 0 where
  pub element : ℕ
  pub number : ℕ
  pub there : Contains es (scope_port (owner.Element element) number)
  pub inner : ℕ
  pub is_body : body s element ≡ Some inner
  pub behind : ScopePort
  pub out : Contains (short inner (scope_port owner.Input number)) behind
  pub is : p ≡ scope_port (owner.Element element) behind.number

-- p is one of these ends, and an output of the scope
abbrev pub GoesOut : List ScopePort → ScopePort → Type 0
GoesOut es p = Contains es p × (p.owner ≡ owner.Output)

-- each of these ends that belongs to an element is a pass-through input of it
abbrev pub AllLeadThrough : (ends : ℕ → ScopePort → List ScopePort) (body : ℕ → ℕ → Option ℕ) (short : ℕ → ScopePort → List ScopePort) → ℕ → List ScopePort → Type 0
AllLeadThrough ends body short s es =
    (i n : ℕ) → Contains es (scope_port (owner.Element i) n) → (inner : ℕ) × (body s i ≡ Some inner) × LeadsThrough ends body inner n (short inner (scope_port owner.Input n))

-- The outputs of elements that were seen, and the outputs of the scope that were found, before and
-- after a search continues after these ends.
pub record GoesOnBehind (ends : ℕ → ScopePort → List ScopePort) (body : ℕ → ℕ → Option ℕ) (short : ℕ → ScopePort → List ScopePort) (s : ℕ) (es : List ScopePort) (seen_old seen_new outs_old outs_new : List ScopePort) : Type 0 where
  pub seen : Gains (GoesOver body short s es) seen_old seen_new
  pub seen_all : HasAll (GoesOver body short s es) seen_new
  pub outs : Gains (GoesOut es) outs_old outs_new
  pub outs_all : HasAll (GoesOut es) outs_new
  pub through : AllLeadThrough ends body short s es

-- for each port: stand-ins for the ports to which connections lead
abbrev pub AreEndsOf : (ends : ℕ → ScopePort → List ScopePort) (body : ℕ → ℕ → Option ℕ) (short : ℕ → ScopePort → List ScopePort) → ℕ → (ScopePort → List ScopePort) → Type 0
AreEndsOf ends body short s here = (a : ScopePort) → AreStoodFor ends body short s (ends s a) (here a)

-- each input with the same ends as `from` is a pass-through input that leads to these outputs
abbrev pub LeadAlike : (ends : ℕ → ScopePort → List ScopePort) (body : ℕ → ℕ → Option ℕ) → ℕ → (ScopePort → List ScopePort) → ScopePort → List ScopePort → Type 0
LeadAlike ends body s here from outs = (n : ℕ) → here (scope_port owner.Input n) ≡ here from → LeadsThrough ends body s n outs

-- the only port of a list with one port
abbrev pub only : List ScopePort → Option ScopePort
only [] = None
only (p ∷ []) = Some p
only (p ∷ q ∷ ps) = None

-- input k has a shortcut, and the same ends as `from`
pub record IsLike (here : ScopePort → List ScopePort) (shortcuts : List Shortcut) (from : ScopePort) (k : ℕ) : Type 0 where
  pub ends : here from ≡ here (scope_port owner.Input k)
  pub shortcut : Shortcut
  pub there : Contains shortcuts shortcut
  pub is : shortcut.from ≡ scope_port owner.Input k

-- what was found of a scope
pub record AreFound (ends : ℕ → ScopePort → List ScopePort) (body : ℕ → ℕ → Option ℕ) (s : ℕ) (here : ScopePort → List ScopePort) (found : ScopeShortcuts) : Type 0 where
  pub shortcuts : (k : Shortcut) → Contains found.shortcuts.items k → (k.from.owner ≡ owner.Input) × LeadAlike ends body s here k.from k.outputs.items
  pub firsts : (p : ScopePort) (k : ℕ) → lookup (same_port p) found.firsts.entries ≡ Some k → (from : ScopePort) → here from ≡ p ∷ [] → IsLike here found.shortcuts.items from k
  pub alike : (n k : ℕ) → lookup (nat_eq n) found.alike.entries ≡ Some k → IsLike here found.shortcuts.items (scope_port owner.Input n) k

-- the index with these shortcuts: a port has its old ends, or the outputs of a shortcut from it; a
-- port with a shortcut always has the latter
pub record HasShortcuts (old : ConnectionIndex) (found : ScopeShortcuts) (new : ConnectionIndex) : Type 0 where
  pub each : (a : ScopePort) → (ends_in new.ends.entries a ≡ ends_in old.ends.entries a)
      ⊎ ((k : Shortcut) × Contains found.shortcuts.items k × (a ≡ k.from) × (ends_in new.ends.entries a ≡ k.outputs.items))
  pub all : (k : Shortcut) → Contains found.shortcuts.items k →
      (j : Shortcut) × Contains found.shortcuts.items j × (k.from ≡ j.from) × (ends_in new.ends.entries k.from ≡ j.outputs.items)
  pub alike : new.alike ≡ found.alike

-- each input that is recorded as like another leads to the same outputs as the other
abbrev pub AreAlike : (ends : ℕ → ScopePort → List ScopePort) (body : ℕ → ℕ → Option ℕ) (short : ℕ → ScopePort → List ScopePort) → ℕ → ConnectionIndex → Type 0
AreAlike ends body short s x = (n k : ℕ) → lookup (nat_eq n) x.alike.entries ≡ Some k → LeadsThrough ends body s n (short s (scope_port owner.Input k))

-- Each element of an instance is a flat element, or the instance of its body.
pub record AreNested (body : ℕ → ℕ → Option ℕ) (instances : List Instance) : Type 0 where
  pub primitive_element : (u i l : ℕ) (k : Instance) → slice_get instances u ≡ Some k → slice_get k.parts i ≡ Some (part.PrimitiveElement l) → body k.scope i ≡ None
  pub inner : (u i v : ℕ) (k : Instance) → slice_get instances u ≡ Some k → slice_get k.parts i ≡ Some (part.Inner v) →
      (m : Instance) × (slice_get instances v ≡ Some m) × ((p : Place) × (m.enclosing ≡ Some p) × (p.within ≡ u) × (p.element ≡ i)) × (body k.scope i ≡ Some m.scope)
  pub part : (u i b : ℕ) (k : Instance) → slice_get instances u ≡ Some k → body k.scope i ≡ Some b → (v : ℕ) × (slice_get k.parts i ≡ Some (part.Inner v))
