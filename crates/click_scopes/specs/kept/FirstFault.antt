-- Stored misuses, and the first of them.
use Rattle.std.specs.Prelude.{◌≡◌, ◌⊎◌, ℕ, ◌+◌, ◌<◌, ◌≤◌, List, map, take, slice_get, Bool, ◌&&◌, nat_eq, nat_lt, Option, Some, None, if◌then◌else◌}
use Rattle.click_text.specs.declared.syntax.Span.{Span}
use Rattle.click_text.specs.declared.syntax.ClassReference.TheVariants as class
use Rattle.click_text.specs.declared.syntax.Head.{Head}
use Rattle.click_text.specs.declared.syntax.Head.TheVariants as head
use Rattle.click_text.specs.Spans.{bytes_at}
use Rattle.click_text.specs.declared.syntax.Body.{Body}
use Rattle.click_scopes.specs.Elements.{is_port_name}
use Rattle.click_base.specs.NameLists.{has_name}
use Rattle.click_text.specs.declared.syntax.Config.{Config}
use Rattle.click_scopes.specs.Faults.{IsWrong, fault_number, brace_by}
use Rattle.click_scopes.specs.declared.scope_elements.ScopeElement.{ScopeElement as ScopeElementKept}
use Rattle.click_scopes.specs.declared.classes.ResolvedClass.{ResolvedClass}
use Rattle.click_scopes.specs.declared.fault.WrongUse.{WrongUse}
use Rattle.click_scopes.specs.declared.fault.WrongUse.TheVariants as kind
use Rattle.click_scopes.specs.declared.first_fault.TokenFault.{TokenFault}

abbrev pub token_fault : WrongUse → Span → TokenFault
token_fault k s = record { kind = k; span = s }

abbrev pub token_fault_if : Bool → WrongUse → Span → Option TokenFault
token_fault_if b k s = if b then Some (token_fault k s) else None

abbrev pub comes_before : TokenFault → TokenFault → Bool
comes_before a b = if nat_eq a.span.start b.span.start then nat_lt (fault_number a.kind) (fault_number b.kind) else nat_lt a.span.start b.span.start

abbrev pub first_of : Option TokenFault → Option TokenFault → Option TokenFault
first_of None b = b
first_of (Some x) None = Some x
first_of (Some x) (Some y) = if comes_before y x then Some y else Some x

-- a comes no later than b: by its offset, then by its number
abbrev pub AtMost : TokenFault → TokenFault → Type 0
AtMost a b = (a.span.start < b.span.start) ⊎ ((a.span.start ≡ b.span.start) × (fault_number a.kind ≤ fault_number b.kind))

-- the first of the misuses for which P holds, or none
abbrev pub IsLeast : (TokenFault → Type 0) → Option TokenFault → Type 0
IsLeast P None = (w : TokenFault) → P w → ⊥
IsLeast P (Some w) = P w × ((x : TokenFault) → P x → AtMost w x)

-- a misuse of a name: unknown, of an unknown class, or declared twice
pub record IsNameFault (c : Config) (w : TokenFault) : Type 0 where
  pub wrong : IsWrong c w.kind w.span
  pub kind : fault_number w.kind ≤ 13

-- a misuse of a compound: of its parameters, or of its ports
pub record IsCompoundFault (c : Config) (w : TokenFault) : Type 0 where
  pub wrong : IsWrong c w.kind w.span
  pub kind : 14 ≤ fault_number w.kind

-- the word of an element that names no class
abbrev pub unknown_word : Head → Option Span → Option TokenFault
unknown_word (head.Word s) None = Some (token_fault kind.UnknownName s)
unknown_word (head.Word s) (Some t) = Some (token_fault kind.UnknownClass s)
unknown_word (head.Declared n (class.Named s)) t = Some (token_fault kind.UnknownClass s)
unknown_word (head.Declared n (class.Body b)) t = None
unknown_word (head.Compound b) t = None

abbrev pub unknown_at : Head → Option Span → Option ResolvedClass → Option TokenFault
unknown_at h t None = unknown_word h t
unknown_at h t (Some c) = None

-- `input` or `output` declared in a body
abbrev pub port_at : List ℕ → Bool → Head → Option TokenFault
port_at text in_body (head.Word s) = None
port_at text in_body (head.Declared n c) = token_fault_if (in_body && is_port_name (bytes_at text n)) kind.DeclaredTwice n
port_at text in_body (head.Compound b) = None

-- an element with the name of an earlier one
abbrev pub twice_by : Bool → Option ResolvedClass → Span → Option TokenFault
twice_by taken None s = None
twice_by taken (Some c) s = token_fault_if taken kind.DeclaredTwice s

abbrev pub twice_at : Bool → Head → Option ResolvedClass → Span → Option TokenFault
twice_at taken (head.Word w) c s = twice_by taken c s
twice_at taken (head.Declared n d) c s = token_fault_if taken kind.DeclaredTwice s
twice_at taken (head.Compound b) c s = twice_by taken c s

-- the first token of an element
abbrev pub first_in : List Body → Head → Span
first_in bodies (head.Word s) = s
first_in bodies (head.Declared n d) = n
first_in bodies (head.Compound b) = brace_by (slice_get bodies b)

-- each of these bodies begins at an offset below 2^64 - 1
abbrev pub AreShort : List Body → Type 0
AreShort bodies = (b : ℕ) (x : Body) → slice_get bodies b ≡ Some x → x.span.start + 1 < 18446744073709551616

-- the misuse of an element: of its name, its class or its declaration; `taken` states whether an
-- earlier element has its name
abbrev pub scope_element_at : List ℕ → List Body → Bool → Bool → ScopeElementKept → Option TokenFault
scope_element_at text bodies in_body taken l =
    first_of (first_of (unknown_at l.head l.text l.class) (twice_at taken l.head l.class (first_in bodies l.head))) (port_at text in_body l.head)

abbrev pub local_names : List ScopeElementKept → List (List ℕ)
local_names ls = map (λ (l : ScopeElementKept). l.name.items) ls

-- One of the elements with an index below `end` has this misuse of its name, class or declaration;
-- of two in one element, the first counts.
pub record IsWrongScopeElement (text : List ℕ) (bodies : List Body) (in_body : Bool) (ls : List ScopeElementKept) (end : ℕ) (w : TokenFault) : Type 0 where
  pub place : ℕ
  pub element : ScopeElementKept
  pub within : place < end
  pub there : slice_get ls place ≡ Some element
  pub is : scope_element_at text bodies in_body (has_name element.name.items (local_names (take place ls))) element ≡ Some w

abbrev pub formals_in : List ℕ → List Span → List (List ℕ)
formals_in text fs = map (bytes_at text) fs

-- One of the parameters with an index below `end` has the name of an earlier one.
pub record IsWrongFormal (text : List ℕ) (fs : List Span) (end : ℕ) (w : TokenFault) : Type 0 where
  pub place : ℕ
  pub formal : Span
  pub within : place < end
  pub there : slice_get fs place ≡ Some formal
  pub is : token_fault_if (has_name (bytes_at text formal) (formals_in text (take place fs))) kind.DeclaredTwice formal ≡ Some w
