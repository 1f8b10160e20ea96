-- What a text opens: the first state of a router, or the text's first fault.
use Rattle.std.specs.Prelude.{◌≡◌, ◌⊎◌, ℕ, ◌+◌, ◌≤◌, List, [], ◌∷◌, ◌++◌, length, take, count_by, take_while, reverse, not, nat_eq, slice_get, Option, Some, None, Result, Ok, Err}
use Rattle.click_text.specs.declared.syntax.Span.{Span}
use Rattle.click_text.specs.declared.syntax.FaultKind.TheVariants as text_kind
use Rattle.click_text.specs.declared.syntax.TextFault.{TextFault}
use Rattle.click_text.specs.declared.syntax.Config.{Config}
use Rattle.click_text.specs.Spelling.{longest_text, Spells, IsAnswered}
use Rattle.click_expand.specs.Flat.{IsFlat, IsFlatFault}
use Rattle.click_expand.specs.declared.fault.ExpandFault.{ExpandFault}
use Rattle.click_expand.specs.declared.fault.FaultKind.TheVariants as expand_kind
use Rattle.click_expand.specs.declared.flat.FlatElement.{FlatElement}
use Rattle.click_expand.specs.declared.flat.Flat.{Flat}
use Rattle.click_classes.specs.Made.{IsMade}
use Rattle.click_classes.specs.declared.fault.ArgFault.{ArgFault}
use Rattle.click_classes.specs.declared.fault.ArgFault.TheVariants as arg_kind
use Rattle.click_classes.specs.declared.state.State.{State}
use Rattle.click_engine.specs.Plant.{Plant, IsStarted}
use Rattle.click_ports.specs.Breaches.{IsFirstBreach}
use Rattle.click_ports.specs.Lawful.{Lawful}
use Rattle.click_ports.specs.Net.{net_of}
use Rattle.click_ports.specs.declared.fault.FaultKind.TheVariants as port_kind
use Rattle.click_ports.specs.declared.fault.PortFault.{PortFault}
use Rattle.click_router.specs.State.{RouterState}
use Rattle.click_router.specs.declared.fault.FaultKind.{FaultKind}
use Rattle.click_router.specs.declared.fault.FaultKind.TheVariants as kind
use Rattle.click_router.specs.declared.fault.FaultPlace.{FaultPlace}
use Rattle.click_router.specs.declared.fault.FaultPlace.TheVariants as place
use Rattle.click_router.specs.declared.fault.ConfigFault.{ConfigFault}

-- the result of `make` for the element's class and configuration string
abbrev pub IsBegun : FlatElement → Result State ArgFault → Type 0
IsBegun e r = IsMade e.class e.text r

-- the first state of each element
abbrev pub AreFresh : List FlatElement → List State → Type 0
AreFresh [] [] = Unit {0}
AreFresh (e ∷ es) (q ∷ qs) = IsBegun e (Ok q) × AreFresh es qs
AreFresh [] (q ∷ qs) = ⊥
AreFresh (e ∷ es) [] = ⊥

-- the port rules hold for the elements' states and the connections
abbrev pub IsLawful : Flat → List State → Type 0
IsLawful flat states = Lawful (net_of flat states).shapes (net_of flat states).connections

-- each element begins with its first state, and the net is lawful
pub record Begins (flat : Flat) (plant : Plant) : Type 0 where
  pub states : List State
  pub fresh : AreFresh flat.elements states
  pub lawful : IsLawful flat states
  pub started : IsStarted (net_of flat states) states plant

-- the elements and connections are those of the configuration, and the plant begins with them
pub record OpensAs (config : Config) (flat : Flat) (plant : Plant) : Type 0 where
  pub is_flat : IsFlat config flat
  pub begins : Begins flat plant

-- the first state of the router of a text
pub record IsOpened (text : List ℕ) (s : RouterState) : Type 0 where
  pub within : length text ≤ longest_text
  pub config : Config
  pub spells : Spells text config
  pub opens : OpensAs config s.flat s.plant
  pub copy : s.text ≡ text

-- A fault at a position in the text. The line is counted by the LF bytes before it, and the column
-- by the bytes after the last of them, both from 1.
abbrev pub line_at : List ℕ → ℕ → ℕ
line_at text at = count_by (λ b. nat_eq b 10) (take at text) + 1

abbrev pub column_at : List ℕ → ℕ → ℕ
column_at text at = length (take_while (λ b. not (nat_eq b 10)) (reverse (take at text))) + 1

abbrev pub place_at : List ℕ → Span → FaultPlace
place_at text s = place.At (line_at text s.start) (column_at text s.start)

abbrev pub fault_at : FaultKind → List ℕ → Span → ConfigFault
fault_at k text s = record { kind = k; place = place_at text s }

abbrev pub fault_nowhere : FaultKind → ConfigFault
fault_nowhere k = record { kind = k; place = place.Nowhere }

-- a fault of the text itself
abbrev pub of_text_fault : List ℕ → TextFault → ConfigFault
of_text_fault text f = elim f.kind [
  | text_kind.NoMemory ↦ fault_nowhere kind.NoMemory
  | text_kind.TooLarge ↦ fault_nowhere (kind.Text text_kind.TooLarge)
  | k ↦ fault_at (kind.Text k) text f.span
]

-- a fault of names, classes, parameters, ports of compounds, limits, or configuration strings
abbrev pub span_place : List ℕ → Option Span → FaultPlace
span_place text None = place.Nowhere
span_place text (Some s) = place_at text s

abbrev pub of_expand_fault : List ℕ → ExpandFault → ConfigFault
of_expand_fault text f = elim f.kind [
  | expand_kind.NoMemory ↦ fault_nowhere kind.NoMemory
  | expand_kind.TooMany ↦ fault_nowhere (kind.Expansion expand_kind.TooMany)
  | expand_kind.BrokenText ↦ record { kind = kind.Expansion expand_kind.BrokenText; place = place.Element f.name }
  | k ↦ record { kind = kind.Expansion k; place = span_place text f.span }
]

-- a fault of an element's arguments
abbrev pub argument_kind : ArgFault → FaultKind
argument_kind arg_kind.NoMemory = kind.NoMemory
argument_kind f = kind.Argument f

abbrev pub of_argument_fault : FlatElement → ArgFault → ConfigFault
of_argument_fault e f = record { kind = argument_kind f; place = place.Element e.name }

-- a fault of port rules, at the element with an index
abbrev pub name_in : Option FlatElement → List ℕ
name_in None = []
name_in (Some e) = e.name

abbrev pub name_at : List FlatElement → ℕ → List ℕ
name_at es i = name_in (slice_get es i)

abbrev pub of_port_fault : List FlatElement → PortFault → ConfigFault
of_port_fault es f = elim f.kind [
  | port_kind.NoMemory ↦ fault_nowhere kind.NoMemory
  | port_kind.Count ↦ record { kind = kind.Port port_kind.Count; place = place.Used (name_at es f.element) f.side f.number }
  | k ↦ record { kind = kind.Port k; place = place.Port (name_at es f.element) f.side f.number }
]

-- The first fault of a text. It is a fault of the text itself, else of its flat form, else of the
-- first element that refuses its arguments, else the first breach of a port rule.
pub data IsFirstFault : List ℕ → ConfigFault → Type 0 where
  unreadable : (text : List ℕ) (f : TextFault) → IsAnswered text f → IsFirstFault text (of_text_fault text f)
  not_flat : (text : List ℕ) (config : Config) (f : ExpandFault) → length text ≤ longest_text → Spells text config →
      IsFlatFault config f → IsFirstFault text (of_expand_fault text f)
  unfit : (text : List ℕ) (config : Config) (flat : Flat) (fit : List FlatElement) (e : FlatElement) (more : List FlatElement) (states : List State) (f : ArgFault) →
      length text ≤ longest_text → Spells text config → IsFlat config flat → flat.elements ≡ fit ++ e ∷ more → AreFresh fit states → IsBegun e (Err f) →
      IsFirstFault text (of_argument_fault e f)
  unlawful : (text : List ℕ) (config : Config) (flat : Flat) (states : List State) (f : PortFault) → length text ≤ longest_text → Spells text config →
      IsFlat config flat → AreFresh flat.elements states → IsFirstBreach (net_of flat states).shapes (net_of flat states).connections f →
      IsFirstFault text (of_port_fault flat.elements f)

-- out of memory
abbrev pub IsMemory : ConfigFault → Type 0
IsMemory f = f ≡ fault_nowhere kind.NoMemory

abbrev pub IsMemoryOr : ConfigFault → Type 0 → Type 0
IsMemoryOr f P = IsMemory f ⊎ P

-- the result is that state, or out of memory
abbrev pub IsGiven : Result RouterState ConfigFault → RouterState → Type 0
IsGiven (Ok r) s = r ≡ s
IsGiven (Err f) s = IsMemory f
