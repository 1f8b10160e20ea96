-- The search for the connections of a flat configuration: from a port of an instance of a scope,
-- one step of the scopes' indices after another.
use Rattle.std.specs.Prelude.{◌≡◌, ℕ, List, [], ◌∷◌, ◌++◌, map, slice_get, nat_eq, Bool, true, false, ◌&&◌, Contains, Option, Some, None}
use Rattle.std.specs.Map.{lookup}
use Rattle.click_scopes.specs.declared.written_connections.Owner.{Owner}
use Rattle.click_scopes.specs.declared.written_connections.Owner.TheVariants as owner
use Rattle.click_scopes.specs.declared.written_connections.WrittenConnection.{WrittenConnection}
use Rattle.click_scopes.specs.declared.scopes.Scope.{Scope as ScopeKept}
use Rattle.click_expand.specs.declared.instances.tree.InstancePart.{InstancePart}
use Rattle.click_expand.specs.declared.instances.tree.InstancePart.TheVariants as part
use Rattle.click_expand.specs.declared.instances.tree.Place.{Place}
use Rattle.click_expand.specs.declared.instances.tree.Instance.{Instance}
use Rattle.click_expand.specs.declared.connections.connection_index.ScopePort.{ScopePort}
use Rattle.click_expand.specs.declared.connections.connection_index.InstancePort.{InstancePort}
use Rattle.click_expand.specs.declared.connections.connection_index.FlatInput.{FlatInput}
use Rattle.click_expand.specs.declared.connections.connection_index.Reached.{Reached}
use Rattle.click_expand.specs.declared.connections.connection_index.Reached.TheVariants as next
use Rattle.click_expand.specs.declared.connections.connection_index.PortEnds.{PortEnds}
use Rattle.click_expand.specs.declared.connections.connection_index.PortEnds.TheVariants.{One, Several}
use Rattle.click_expand.specs.declared.connections.connection_index.ConnectionIndex.{ConnectionIndex}
use Rattle.click_expand.specs.declared.flat.Connection.{Connection}

abbrev pub scope_port : Owner → ℕ → ScopePort
scope_port o n = record { owner = o; number = n }

abbrev pub instance_port : ℕ → ScopePort → InstancePort
instance_port u p = record { within = u; port = p }

abbrev pub flat_input : ℕ → ℕ → FlatInput
flat_input l n = record { primitive_element = l; number = n }

abbrev pub same_owner : Owner → Owner → Bool
same_owner owner.Input owner.Input = true
same_owner owner.Output owner.Output = true
same_owner (owner.Element i) (owner.Element j) = nat_eq i j
same_owner _ _ = false

abbrev pub same_port : ScopePort → ScopePort → Bool
same_port a b = same_owner a.owner b.owner && nat_eq a.number b.number

abbrev pub same_start : InstancePort → InstancePort → Bool
same_start a b = nat_eq a.within b.within && same_port a.port b.port

-- a written connection leads from port a to port b of its scope
pub record IsJoined (ks : List WrittenConnection) (a b : ScopePort) : Type 0 where
  pub written_connection : WrittenConnection
  pub there : Contains ks written_connection
  pub from : a ≡ scope_port written_connection.from.owner written_connection.out_port
  pub to : b ≡ scope_port written_connection.to.owner written_connection.in_port

-- the ports that connections lead to from a port
abbrev pub ends_of : PortEnds → List ScopePort
ends_of (One b) = b ∷ []
ends_of (Several v) = v.items

abbrev pub ends_or_none : Option PortEnds → List ScopePort
ends_or_none None = []
ends_or_none (Some v) = ends_of v

abbrev pub ends_in : List (ScopePort × PortEnds) → ScopePort → List ScopePort
ends_in entries a = ends_or_none (lookup (same_port a) entries)

-- the index has, for each port, exactly the ports that written connections lead to from it
pub record IsIndex (ks : List WrittenConnection) (entries : List (ScopePort × PortEnds)) : Type 0 where
  pub sound : (a b : ScopePort) → Contains (ends_in entries a) b → IsJoined ks a b
  pub complete : (a b : ScopePort) → IsJoined ks a b → Contains (ends_in entries a) b

-- one index for each scope
abbrev pub AreIndices : List ScopeKept → List ConnectionIndex → Type 0
AreIndices [] [] = Unit {0}
AreIndices [] (x ∷ xs) = ⊥
AreIndices (k ∷ all) [] = ⊥
AreIndices (k ∷ all) (x ∷ xs) = IsIndex k.connections x.ends.entries × AreIndices all xs

-- the port outside an instance that is at this place
abbrev pub outward : Option Place → ℕ → Reached
outward None n = next.Nothing
outward (Some p) n = next.Start (instance_port p.within (scope_port (owner.Element p.element) n))

-- the port inside an element
abbrev pub inward : Option InstancePart → ℕ → Reached
inward None n = next.Nothing
inward (Some (part.PrimitiveElement l)) n = next.PrimitiveElement (flat_input l n)
inward (Some (part.Inner v)) n = next.Start (instance_port v (scope_port owner.Input n))

-- what a connection to this port leads to, in that instance
abbrev pub reached_by : Instance → Owner → ℕ → Reached
reached_by k owner.Input n = next.Nothing
reached_by k owner.Output n = outward k.enclosing n
reached_by k (owner.Element i) n = inward (slice_get k.parts i) n

-- one connection leads from the start s to n
pub record StepsTo (instances : List Instance) (indices : List ConnectionIndex) (s : InstancePort) (n : Reached) : Type 0 where
  pub used : Instance
  pub instance_is_there : slice_get instances s.within ≡ Some used
  pub index : ConnectionIndex
  pub index_there : slice_get indices used.scope ≡ Some index
  pub to : ScopePort
  pub joined : Contains (ends_in index.ends.entries s.port) to
  pub is : n ≡ reached_by used to.owner to.number

-- what connections to these ports lead to, in an instance
abbrev pub all_reached : Instance → List ScopePort → List Reached
all_reached k ends = map (λ (e : ScopePort). reached_by k e.owner e.number) ends

-- connections lead from a start to an input of a flat element
pub data Arrives (instances : List Instance) (indices : List ConnectionIndex) : InstancePort → FlatInput → Type 0 where
  at_once : (s : InstancePort) (i : FlatInput) → StepsTo instances indices s (next.PrimitiveElement i) → Arrives instances indices s i
  after_connection : (s t : InstancePort) (i : FlatInput) → StepsTo instances indices s (next.Start t) → Arrives instances indices t i → Arrives instances indices s i

abbrev pub connection : ℕ → ℕ → FlatInput → Connection
connection primitive_element number i = record { from = primitive_element; out_port = number; to = i.primitive_element; in_port = i.number }

-- a connection from a flat element, found by a search from it
pub record IsFrom (instances : List Instance) (indices : List ConnectionIndex) (primitive_element : ℕ) (s : InstancePort) (k : Connection) : Type 0 where
  pub to : FlatInput
  pub arrives : Arrives instances indices s to
  pub is : k ≡ connection primitive_element s.port.number to

-- a connection from this port of an instance, which is an output of a flat element
pub record IsFromPort (instances : List Instance) (indices : List ConnectionIndex) (within : ℕ) (p : ScopePort) (k : Connection) : Type 0 where
  pub used : Instance
  pub there : slice_get instances within ≡ Some used
  pub element : ℕ
  pub owner : p.owner ≡ owner.Element element
  pub is_primitive_element : slice_get used.parts element ≡ Some (part.PrimitiveElement k.from)
  pub is_from : IsFrom instances indices k.from (instance_port within p) k

-- a connection from an instance
pub record IsFromInstance (instances : List Instance) (indices : List ConnectionIndex) (within : ℕ) (k : Connection) : Type 0 where
  pub port : ScopePort
  pub is_from : IsFromPort instances indices within port k

-- a connection between flat elements
pub record Connects (instances : List Instance) (indices : List ConnectionIndex) (k : Connection) : Type 0 where
  pub within : ℕ
  pub is_from : IsFromInstance instances indices within k

-- `new` has further items after `old`, and P holds of each of them
pub record Gains {X : Type 0} (P : X → Type 0) (old new : List X) : Type 0 where
  pub more : List X
  pub is : new ≡ old ++ more
  pub each : (x : X) → Contains more x → P x

abbrev pub HasAll : {X : Type 0} (P : X → Type 0) (xs : List X) → Type 0
HasAll {X} P xs = (x : X) → P x → Contains xs x

-- a start that is among these
abbrev pub IsOn : List Reached → InstancePort → Type 0
IsOn ns s = Contains ns (next.Start s)

-- a connection from the output to an input that is among these
abbrev pub IsConnectionInto : ℕ → ℕ → List Reached → Connection → Type 0
IsConnectionInto primitive_element number ns k = (i : FlatInput) × Contains ns (next.PrimitiveElement i) × (k ≡ connection primitive_element number i)

-- the starts that were seen, and the connections that were found, before and after these are taken
pub record Takes (primitive_element number : ℕ) (ns : List Reached) (seen_old seen_new : List InstancePort) (found_old found_new : List Connection) : Type 0 where
  pub seen : Gains (IsOn ns) seen_old seen_new
  pub seen_all : HasAll (IsOn ns) seen_new
  pub found : Gains (IsConnectionInto primitive_element number ns) found_old found_new
  pub found_all : HasAll (IsConnectionInto primitive_element number ns) found_new

-- one connection leads from a start to an input of a flat element
abbrev pub IsAtOnce : List Instance → List ConnectionIndex → InstancePort → ℕ → ℕ → Connection → Type 0
IsAtOnce instances indices s primitive_element number k = (i : FlatInput) × StepsTo instances indices s (next.PrimitiveElement i) × (k ≡ connection primitive_element number i)

-- the starts that were seen, and the connections that were found, before and after one connection
-- from a start
pub record Visits (instances : List Instance) (indices : List ConnectionIndex) (s : InstancePort) (primitive_element number : ℕ) (seen_old seen_new : List InstancePort) (found_old found_new : List Connection) : Type 0 where
  pub seen : Gains (λ t. StepsTo instances indices s (next.Start t)) seen_old seen_new
  pub seen_all : HasAll (λ t. StepsTo instances indices s (next.Start t)) seen_new
  pub found : Gains (IsAtOnce instances indices s primitive_element number) found_old found_new
  pub found_all : HasAll (IsAtOnce instances indices s primitive_element number) found_new
