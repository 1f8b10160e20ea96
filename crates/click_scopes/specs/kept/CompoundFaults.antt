-- Misuses of compounds, in the form in which the code looks for them.
use Rattle.std.specs.Prelude.{◌≡◌, ◌⊎◌, ℕ, ◌<◌, List, [], ◌∷◌, length, slice_get, slice_index_or, Bool, false, not, Contains, nat_eq, nat_lt, Option, Some, None, ◌↔◌, IsTrue}
use Rattle.std.specs.List.{list_any}
use Rattle.click_text.specs.declared.syntax.Span.{Span}
use Rattle.click_text.specs.declared.syntax.Body.{Body}
use Rattle.click_text.specs.declared.syntax.Config.{Config}
use Rattle.click_scopes.specs.Scopes.{body_formals}
use Rattle.click_scopes.specs.Faults.{brace_by, port_count, inputs_of, outputs_of}
use Rattle.click_scopes.specs.kept.FirstFault.{token_fault, token_fault_if, first_in}
use Rattle.click_scopes.specs.kept.Lookups.{elements_by, connections_by, class_body, scope_element_body}
use Rattle.click_scopes.specs.declared.fault.WrongUse.TheVariants as kind
use Rattle.click_scopes.specs.declared.scope_elements.ScopeElement.{ScopeElement as ScopeElementKept}
use Rattle.click_scopes.specs.declared.written_connections.Owner.{Owner}
use Rattle.click_scopes.specs.declared.written_connections.Owner.TheVariants as owner
use Rattle.click_scopes.specs.declared.written_connections.WrittenConnection.{WrittenConnection as ConnectionKept}
use Rattle.click_scopes.specs.declared.scopes.Scope.{Scope as ScopeKept}
use Rattle.click_scopes.specs.declared.ports.Ports.{Ports}
use Rattle.click_scopes.specs.declared.first_fault.TokenFault.{TokenFault}

-- One of the indices below `end` has this misuse.
pub record Among (C : ℕ → TokenFault → Type 0) (end : ℕ) (w : TokenFault) : Type 0 where
  pub place : ℕ
  pub within : place < end
  pub is : C place w

-- the input ports, and the output ports, of a body that its connections use
abbrev pub from_input : Owner → ℕ → List ℕ → List ℕ
from_input owner.Input p ps = p ∷ ps
from_input owner.Output p ps = ps
from_input (owner.Element i) p ps = ps

abbrev pub to_output : Owner → ℕ → List ℕ → List ℕ
to_output owner.Input p ps = ps
to_output owner.Output p ps = p ∷ ps
to_output (owner.Element i) p ps = ps

abbrev pub inputs_kept : List ConnectionKept → List ℕ
inputs_kept [] = []
inputs_kept (k ∷ ks) = from_input k.from.owner k.out_port (inputs_kept ks)

abbrev pub outputs_kept : List ConnectionKept → List ℕ
outputs_kept [] = []
outputs_kept (k ∷ ks) = to_output k.to.owner k.in_port (outputs_kept ks)

-- an unused port of a body below its highest one
pub record HasGap (ports : List ℕ) : Type 0 where
  pub port : ℕ
  pub below : port < port_count ports
  pub unused : Contains ports port → ⊥

abbrev pub has_port : ℕ → List ℕ → Bool
has_port p ports = list_any (nat_eq p) ports

-- `count` is the number of ports up to the highest one in use, and `flags` has a flag for each that
-- is in use
pub record IsUsed (ports : List ℕ) (count : ℕ) (flags : List Bool) : Type 0 where
  pub size : length flags ≡ 256
  pub counts : count ≡ port_count ports
  pub each : (p : ℕ) → p < 256 → slice_index_or flags p false ≡ has_port p ports

pub record IsPorts (inputs outputs : List ℕ) (p : Ports) : Type 0 where
  pub ins : p.inputs ≡ port_count inputs
  pub outs : p.outputs ≡ port_count outputs
  pub gaps : IsTrue p.gap ↔ (HasGap inputs ⊎ HasGap outputs)

abbrev pub ports_or : Option Ports → Ports
ports_or None = record { inputs = 0; outputs = 0; gap = false }
ports_or (Some p) = p

-- the ports of each body, and none for an index without a body
pub record ArePorts (c : Config) (ports : List Ports) : Type 0 where
  pub each : (b : ℕ) → IsPorts (inputs_of c b) (outputs_of c b) (ports_or (slice_get ports b))

-- an element of a compound with more or fewer arguments than the compound has parameters
abbrev pub call_fault_of : List Body → Option ℕ → List Span → Span → Option TokenFault
call_fault_of bodies None spans first = None
call_fault_of bodies (Some b) spans first = token_fault_if (not (nat_eq (length spans) (length (body_formals (slice_get bodies b))))) kind.WrongParameters first

abbrev pub call_fault_at : List Body → ScopeElementKept → Option TokenFault
call_fault_at bodies l = call_fault_of bodies (class_body l.class) l.arguments (first_in bodies l.head)

-- the element at this index has a wrong number of arguments
pub record IsWrongCall (bodies : List Body) (ls : List ScopeElementKept) (place : ℕ) (w : TokenFault) : Type 0 where
  pub element : ScopeElementKept
  pub there : slice_get ls place ≡ Some element
  pub is : call_fault_at bodies element ≡ Some w

abbrev pub outputs_by : List Ports → Option ℕ → Option ℕ
outputs_by ports None = None
outputs_by ports (Some b) = Some ((ports_or (slice_get ports b)).outputs)

abbrev pub inputs_by : List Ports → Option ℕ → Option ℕ
inputs_by ports None = None
inputs_by ports (Some b) = Some ((ports_or (slice_get ports b)).inputs)

-- a port that does not exist, if the number of ports is known
abbrev pub lacking : Option ℕ → ℕ → Span → Option TokenFault
lacking None port first = None
lacking (Some n) port first = token_fault_if (not (nat_lt port n)) kind.CompoundPort first

abbrev pub source_by : List ScopeElementKept → List Ports → Owner → ℕ → Span → Option TokenFault
source_by ls ports owner.Input port first = None
source_by ls ports owner.Output port first = Some (token_fault kind.CompoundPort first)
source_by ls ports (owner.Element i) port first = lacking (outputs_by ports (scope_element_body (slice_get ls i))) port first

abbrev pub target_by : List ScopeElementKept → List Ports → Owner → ℕ → Span → Option TokenFault
target_by ls ports owner.Input port first = Some (token_fault kind.CompoundPort first)
target_by ls ports owner.Output port first = None
target_by ls ports (owner.Element i) port first = lacking (inputs_by ports (scope_element_body (slice_get ls i))) port first

-- an end of the connection at this index is misused
pub record IsWrongWrittenConnection (ls : List ScopeElementKept) (ports : List Ports) (ks : List ConnectionKept) (place : ℕ) (w : TokenFault) : Type 0 where
  pub written_connection : ConnectionKept
  pub there : slice_get ks place ≡ Some written_connection
  pub is : (source_by ls ports written_connection.from.owner written_connection.out_port written_connection.from.first ≡ Some w) ⊎ (target_by ls ports written_connection.to.owner written_connection.in_port written_connection.to.first ≡ Some w)

-- a misuse in the scope at this index
abbrev pub IsWrongIn : List Body → List ScopeKept → List Ports → ℕ → TokenFault → Type 0
IsWrongIn bodies scopes ports place w =
    let ls = elements_by (slice_get scopes place) in
    let ks = connections_by (slice_get scopes place) in
    Among (IsWrongCall bodies ls) (length ls) w ⊎ Among (IsWrongWrittenConnection ls ports ks) (length ks) w

abbrev pub gap_at : List Body → List Ports → ℕ → Option TokenFault
gap_at bodies ports b = token_fault_if ((ports_or (slice_get ports b)).gap) kind.CompoundPort (brace_by (slice_get bodies b))

-- a misuse in the body at this index, or of its ports
abbrev pub IsCompoundFaultOfBody : List Body → List ScopeKept → List Ports → ℕ → TokenFault → Type 0
IsCompoundFaultOfBody bodies scopes ports place w = IsWrongIn bodies scopes ports place w ⊎ (gap_at bodies ports place ≡ Some w)
