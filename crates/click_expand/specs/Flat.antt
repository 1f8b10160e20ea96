-- The flat form of a configuration, or its first fault.
use Rattle.std.specs.Prelude.{◌≡◌, ◌⊎◌, ℕ, ◌<◌, ◌≤◌, List, [], ◌∷◌, ◌++◌, length, map, slice_get, sum_by, Contains, All, Bool, true, false, Option, Some, None, Result, Ok, Err}
use Rattle.click_text.specs.declared.strings.Mode.TheVariants as mode
use Rattle.click_text.specs.declared.syntax.Span.{Span}
use Rattle.click_text.specs.declared.syntax.Config.{Config}
use Rattle.click_text.specs.Strings.{closes}
use Rattle.click_scopes.specs.Faults.{IsFirstWrong, IsFaultless}
use Rattle.click_expand.specs.Instances.{PrimitiveElement, PrimitiveElementsOf}
use Rattle.click_expand.specs.Connections.{output_of, input_of, Leads}
use Rattle.click_expand.specs.declared.flat.FlatElement.{FlatElement}
use Rattle.click_expand.specs.declared.flat.Connection.{Connection}
use Rattle.click_expand.specs.declared.flat.Flat.{Flat}
use Rattle.click_scopes.specs.declared.fault.WrongUse.{WrongUse}
use Rattle.click_scopes.specs.declared.fault.WrongUse.TheVariants as wrong_use
use Rattle.click_expand.specs.declared.fault.FaultKind.{FaultKind}
use Rattle.click_expand.specs.declared.fault.FaultKind.TheVariants as kind
use Rattle.click_expand.specs.declared.fault.ExpandFault.{ExpandFault}

-- the limits
abbrev pub most_elements : ℕ
most_elements = 4096

abbrev pub most_paths : ℕ
most_paths = 16384

abbrev pub most_connections : ℕ
most_connections = 16384

abbrev pub most_text : ℕ
most_text = 1048576

-- the local names on a path, with `/` between them
abbrev pub flat_name : List (List ℕ) → List ℕ
flat_name [] = []
flat_name (n ∷ []) = n
flat_name (n ∷ m ∷ ns) = n ++ 47 ∷ flat_name (m ∷ ns)

abbrev pub flat_element : PrimitiveElement → FlatElement
flat_element l = record { name = flat_name l.path; class = l.class; text = l.text }

-- the connection is between two flat elements, by their indices
pub record Joins (c : Config) (primitive_elements : List PrimitiveElement) (k : Connection) : Type 0 where
  pub from : PrimitiveElement
  pub from_there : slice_get primitive_elements k.from ≡ Some from
  pub to : PrimitiveElement
  pub to_there : slice_get primitive_elements k.to ≡ Some to
  pub leads : Leads c (output_of from.path k.out_port) (input_of to.path k.in_port)

-- one connection comes before another: by from-element, from-port, to-element, to-port
abbrev pub StandsBefore : Connection → Connection → Type 0
StandsBefore c d =
    (c.from < d.from) ⊎ ((c.from ≡ d.from) × ((c.out_port < d.out_port) ⊎ ((c.out_port ≡ d.out_port) ×
    ((c.to < d.to) ⊎ ((c.to ≡ d.to) × (c.in_port < d.in_port))))))

abbrev pub AreOrdered : List Connection → Type 0
AreOrdered [] = Unit {0}
AreOrdered (c ∷ cs) = All (StandsBefore c) cs × AreOrdered cs

-- these are the connections of the flat elements, in order and without repetition
pub record AreConnections (c : Config) (primitive_elements : List PrimitiveElement) (ks : List Connection) : Type 0 where
  pub sound : (k : Connection) → Contains ks k → Joins c primitive_elements k
  pub complete : (k : Connection) → Joins c primitive_elements k → Contains ks k
  pub in_order : AreOrdered ks

abbrev pub text_size : List PrimitiveElement → ℕ
text_size primitive_elements = sum_by (λ (l : PrimitiveElement). length l.text) primitive_elements

pub record WithinLimits (primitive_elements : List PrimitiveElement) (paths : ℕ) (ks : List Connection) : Type 0 where
  pub elements : length primitive_elements ≤ most_elements
  pub all_paths : paths ≤ most_paths
  pub connections : length ks ≤ most_connections
  pub text : text_size primitive_elements ≤ most_text

-- the text, in parentheses, is one token
abbrev pub is_whole : List ℕ → Bool
is_whole text = closes mode.Plain 1 (text ++ 41 ∷ [])

-- the flat names of flat elements
abbrev pub flat_names : List PrimitiveElement → List (List ℕ)
flat_names primitive_elements = map (λ (l : PrimitiveElement). flat_name l.path) primitive_elements

-- no two of the names are equal
abbrev pub AreDistinct : List (List ℕ) → Type 0
AreDistinct [] = Unit {0}
AreDistinct (n ∷ ns) = (Contains ns n → ⊥) × AreDistinct ns

-- the meaning of a configuration without a misuse: its flat elements, the number of paths, and its
-- connections
pub record Meant (c : Config) (primitive_elements : List PrimitiveElement) (paths : ℕ) (ks : List Connection) : Type 0 where
  pub sound : IsFaultless c
  pub elements : PrimitiveElementsOf c primitive_elements paths
  pub connections : AreConnections c primitive_elements ks

-- the flat form of a configuration
pub record IsFlat (c : Config) (f : Flat) : Type 0 where
  pub primitive_elements : List PrimitiveElement
  pub paths : ℕ
  pub meant : Meant c primitive_elements paths f.connections
  pub limits : WithinLimits primitive_elements paths f.connections
  pub distinct : AreDistinct (flat_names primitive_elements)
  pub texts : All (λ (l : PrimitiveElement). is_whole l.text ≡ true) primitive_elements
  pub elements : f.elements ≡ map flat_element primitive_elements

abbrev pub expand_fault : FaultKind → Option Span → List ℕ → ExpandFault
expand_fault k s name = record { kind = k; span = s; name = name }

-- A limit is passed: by the elements, the paths, the text, or the number of different connections.
pub data Exceeds (c : Config) (primitive_elements : List PrimitiveElement) (paths : ℕ) : Type 0 where
  many_elements : most_elements < length primitive_elements → Exceeds c primitive_elements paths
  many_paths : most_paths < paths → Exceeds c primitive_elements paths
  much_text : most_text < text_size primitive_elements → Exceeds c primitive_elements paths
  many_connections : (ks : List Connection) → AreOrdered ks → ((k : Connection) → Contains ks k → Joins c primitive_elements k) → most_connections < length ks →
      Exceeds c primitive_elements paths

-- The first fault. It is a misuse of a name, class, parameter or port, or else a limit that is
-- passed. Otherwise it is the first element with the flat name of an earlier one, or else the first
-- configuration string that is no longer one string.
pub data IsFlatFault (c : Config) : ExpandFault → Type 0 where
  wrong : (k : WrongUse) (s : Span) → IsFirstWrong c k s → IsFlatFault c (expand_fault (kind.Use k) (Some s) [])
  too_many : (primitive_elements : List PrimitiveElement) (paths : ℕ) → IsFaultless c → PrimitiveElementsOf c primitive_elements paths → Exceeds c primitive_elements paths →
      IsFlatFault c (expand_fault kind.TooMany None [])
  repeated : (primitive_elements front back : List PrimitiveElement) (l : PrimitiveElement) (paths : ℕ) (ks : List Connection) → Meant c primitive_elements paths ks → WithinLimits primitive_elements paths ks →
      primitive_elements ≡ front ++ l ∷ back → AreDistinct (flat_names front) → Contains (flat_names front) (flat_name l.path) →
      IsFlatFault c (expand_fault (kind.Use wrong_use.DeclaredTwice) (Some l.first) [])
  broken : (primitive_elements front back : List PrimitiveElement) (l : PrimitiveElement) (paths : ℕ) (ks : List Connection) → Meant c primitive_elements paths ks → WithinLimits primitive_elements paths ks →
      AreDistinct (flat_names primitive_elements) → primitive_elements ≡ front ++ l ∷ back → All (λ (k : PrimitiveElement). is_whole k.text ≡ true) front → is_whole l.text ≡ false →
      IsFlatFault c (expand_fault kind.BrokenText None (flat_name l.path))

-- out of memory
abbrev pub no_memory : ExpandFault
no_memory = expand_fault kind.NoMemory None []

abbrev pub IsMemoryOr : ExpandFault → Type 0 → Type 0
IsMemoryOr f P = (f ≡ no_memory) ⊎ P

-- the result is this flat form, or out of memory
abbrev pub IsGiven : Result Flat ExpandFault → Flat → Type 0
IsGiven (Ok g) f = g ≡ f
IsGiven (Err e) f = e ≡ no_memory
