-- Misuses of names, classes, parameters and ports, in any scope of a configuration, also in a class
-- that is never used.
use Rattle.std.specs.Prelude.{◌≡◌, ◌≢◌, ◌⊎◌, ℕ, ◌+◌, ◌<◌, ◌≤◌, max, List, [], ◌∷◌, ◌++◌, reverse, length, map, slice_get, Contains, Bool, true, false, Option, Some, None, if◌then◌else◌}
use Rattle.std.specs.Str.{bytes_eq}
use Rattle.click_text.specs.declared.syntax.Span.{Span}
use Rattle.click_text.specs.declared.syntax.WrittenPort.{WrittenPort}
use Rattle.click_text.specs.declared.syntax.ClassReference.TheVariants as class
use Rattle.click_text.specs.declared.syntax.Head.{Head}
use Rattle.click_text.specs.declared.syntax.Head.TheVariants as head
use Rattle.click_text.specs.declared.syntax.Link.{Link}
use Rattle.click_text.specs.declared.syntax.Statement.{Statement}
use Rattle.click_text.specs.declared.syntax.Statement.TheVariants as statement
use Rattle.click_text.specs.declared.syntax.Body.{Body}
use Rattle.click_text.specs.declared.syntax.Config.{Config}
use Rattle.click_text.specs.Spans.{bytes_at}
use Rattle.click_text.specs.Pieces.{span}
use Rattle.click_text.specs.Arguments.{AreArguments}
use Rattle.click_scopes.specs.Scopes.{Scope, inside, is_body, statements_of, formals_of, Stands, statement_elements}
use Rattle.click_scopes.specs.Classes.{Meaning, compound, meaning}
use Rattle.click_scopes.specs.Elements.{Placed, place, placed, head_name, declared_names, input_name, output_name, is_port_name, Role, pseudo, refers, makes, role, made_name, name_by, count_with, element_meaning, ScopeElement, scope_elements_from, string_or_empty}
use Rattle.click_base.specs.NameLists.{has_name}
use Rattle.click_scopes.specs.declared.fault.WrongUse.{WrongUse}
use Rattle.click_scopes.specs.declared.fault.WrongUse.TheVariants as kind

-- the written elements of a scope, after the statements that are visible before them
abbrev pub scope_placed : Config → Scope → List Statement → List Placed
scope_placed c s visible = placed visible (statements_of c s)

abbrev pub scope_declared : Config → Scope → List Statement → List (List ℕ)
scope_declared c s visible = declared_names c.text (scope_placed c s visible)

-- the elements of a scope
abbrev pub elements_of_scope : Config → Scope → List Statement → List ScopeElement
elements_of_scope c s visible = scope_elements_from c.text (is_body s) (scope_declared c s visible) 0 (scope_placed c s visible)

abbrev pub role_in : Config → Scope → List Statement → Placed → Role
role_in c s visible p = role c.text (is_body s) (scope_declared c s visible) p.element

-- the opening brace of a body
abbrev pub brace_by : Option Body → Span
brace_by None = span 0 0
brace_by (Some b) = span b.span.start (b.span.start + 1)

abbrev pub brace_of : Config → ℕ → Span
brace_of c b = brace_by (slice_get c.bodies b)

-- the first token of an element
abbrev pub first_token : Config → Head → Span
first_token c (head.Word s) = s
first_token c (head.Declared s d) = s
first_token c (head.Compound b) = brace_of c b

-- An end of a written connection: the name of its element, its role, its class and its first token.
pub record End : Type 0 where
  pub name : List ℕ
  pub role : Role
  pub meaning : Option Meaning
  pub first : Span

-- the class of the first element that is declared under the name
abbrev pub is_declared_as : List ℕ → List ℕ → Option (List ℕ) → Bool
is_declared_as text name None = false
is_declared_as text name (Some n) = bytes_eq n name

abbrev pub declared_meaning : List ℕ → List Placed → List ℕ → Option Meaning
declared_meaning text [] name = None
declared_meaning text (p ∷ ps) name =
    if is_declared_as text name (head_name text p.element.head) then element_meaning text p else declared_meaning text ps name

-- the names of a scope, and its written elements
pub record ScopeNames : Type 0 where
  pub in_body : Bool
  pub declared : List (List ℕ)
  pub written : List Placed

abbrev pub scope_names : Config → Scope → List Statement → ScopeNames
scope_names c s visible = record { in_body = is_body s; declared = scope_declared c s visible; written = scope_placed c s visible }

abbrev pub end_meaning : Config → ScopeNames → Placed → List ℕ → Role → Option Meaning
end_meaning c names p name pseudo = None
end_meaning c names p name refers = declared_meaning c.text names.written name
end_meaning c names p name makes = element_meaning c.text p

abbrev pub end_by : Config → ScopeNames → ℕ → Placed → Role → End
end_by c names n p r = record {
  name = name_by c.text n p.element.head r;
  role = r;
  meaning = end_meaning c names p (name_by c.text n p.element.head r) r;
  first = first_token c p.element.head;
}

abbrev pub written_end : Config → ScopeNames → ℕ → Placed → End
written_end c names n p = end_by c names n p (role c.text names.in_body names.declared p.element)

-- a written connection
pub record WrittenConnection : Type 0 where
  pub from : End
  pub out_port : ℕ
  pub to : End
  pub in_port : ℕ

-- the number of a port, which is 0 if none is written
abbrev pub port_number : Option WrittenPort → ℕ
port_number None = 0
port_number (Some p) = p.number

abbrev pub written_connection : End → Link → End → WrittenConnection
written_connection a l b = record { from = a; out_port = port_number l.from; to = b; in_port = port_number l.to }

-- the number of elements up to this written element
abbrev pub number_behind : Config → ScopeNames → ℕ → Placed → ℕ
number_behind c names n p = count_with (role c.text names.in_body names.declared p.element) n

unfoldable pub written_connections_behind : Config → ScopeNames → List Statement → ℕ → End → List Link → List WrittenConnection
written_connections_behind c names visible n a [] = []
written_connections_behind c names visible n a (l ∷ ls) =
    let b = written_end c names n (place visible l.element) in
    written_connection a l b ∷ written_connections_behind c names visible (number_behind c names n (place visible l.element)) b ls

unfoldable pub number_after_all : Config → ScopeNames → ℕ → List Placed → ℕ
number_after_all c names n [] = n
number_after_all c names n (p ∷ ps) = number_after_all c names (number_behind c names n p) ps

abbrev pub statement_connections : Config → ScopeNames → List Statement → ℕ → Statement → List WrittenConnection
statement_connections c names visible n (statement.Chain k) =
    written_connections_behind c names visible (number_behind c names n (place visible k.first)) (written_end c names n (place visible k.first)) k.links
statement_connections c names visible n _ = []

unfoldable pub written_connections_from : Config → ScopeNames → List Statement → ℕ → List Statement → List WrittenConnection
written_connections_from c names visible n [] = []
written_connections_from c names visible n (st ∷ ss) =
    statement_connections c names visible n st
    ++ written_connections_from c names (st ∷ visible) (number_after_all c names n (map (place visible) (statement_elements st))) ss

-- the written connections of a scope
abbrev pub scope_connections : Config → Scope → List Statement → List WrittenConnection
scope_connections c s visible = written_connections_from c (scope_names c s visible) visible 0 (statements_of c s)

-- the output ports of `input` that are used as sources, and the input ports of `output` that are
-- used as targets
abbrev pub is_pseudo : List ℕ → End → Bool
is_pseudo w e = elim e.role [ pseudo ↦ bytes_eq e.name w | refers ↦ false | makes ↦ false ]

abbrev pub input_ports : List WrittenConnection → List ℕ
input_ports [] = []
input_ports (j ∷ js) = if is_pseudo input_name j.from then j.out_port ∷ input_ports js else input_ports js

abbrev pub output_ports : List WrittenConnection → List ℕ
output_ports [] = []
output_ports (j ∷ js) = if is_pseudo output_name j.to then j.in_port ∷ output_ports js else output_ports js

-- the number of ports, up to the highest one in use
abbrev pub port_count : List ℕ → ℕ
port_count [] = 0
port_count (p ∷ ps) = max (p + 1) (port_count ps)

-- The ports of a body that its connections use. They do not depend on what is visible before the
-- body.
abbrev pub inputs_of : Config → ℕ → List ℕ
inputs_of c b = input_ports (scope_connections c (inside b) [])

abbrev pub outputs_of : Config → ℕ → List ℕ
outputs_of c b = output_ports (scope_connections c (inside b) [])

-- `IsWrong c kind span`: the token with this span misuses a name, class, parameter or port in this
-- way.
pub data IsWrong (c : Config) : WrongUse → Span → Type 0 where
  -- a bare word that names neither an element nor a class
  unknown_name : (s : Scope) (visible : List Statement) (enclosing : List Scope) (front back : List Placed) (p : Placed) (w : Span) → Stands c s visible enclosing →
      scope_placed c s visible ≡ front ++ p ∷ back → role_in c s visible p ≡ makes → p.element.head ≡ head.Word w → p.element.text ≡ None →
      element_meaning c.text p ≡ None → IsWrong c kind.UnknownName w
  -- a word in the position of a class that names no class
  unknown_class : (s : Scope) (visible : List Statement) (enclosing : List Scope) (front back : List Placed) (p : Placed) (w string : Span) → Stands c s visible enclosing →
      scope_placed c s visible ≡ front ++ p ∷ back → p.element.head ≡ head.Word w → p.element.text ≡ Some string →
      element_meaning c.text p ≡ None → IsWrong c kind.UnknownClass w
  unknown_declared : (s : Scope) (visible : List Statement) (enclosing : List Scope) (front back : List Placed) (p : Placed) (n w : Span) → Stands c s visible enclosing →
      scope_placed c s visible ≡ front ++ p ∷ back → p.element.head ≡ head.Declared n (class.Named w) →
      element_meaning c.text p ≡ None → IsWrong c kind.UnknownClass w
  unknown_original : (s : Scope) (visible : List Statement) (enclosing : List Scope) (before after : List Statement) (n w : Span) → Stands c s visible enclosing →
      statements_of c s ≡ before ++ statement.Synonym n w ∷ after → meaning c.text (reverse before ++ visible) (bytes_at c.text w) ≡ None →
      IsWrong c kind.UnknownClass w
  -- an element with the name of an earlier element of its scope; the name of an element that is
  -- written as an unknown class does not count
  named_twice : (s : Scope) (visible : List Statement) (enclosing : List Scope) (front back : List Placed) (p : Placed) → Stands c s visible enclosing →
      scope_placed c s visible ≡ front ++ p ∷ back → role_in c s visible p ≡ makes →
      ((n : Span) × (d : _) × (p.element.head ≡ head.Declared n d)) ⊎ (element_meaning c.text p ≢ None) →
      (let earlier = scope_elements_from c.text (is_body s) (scope_declared c s visible) 0 front in
      has_name (made_name c.text (length earlier) p.element.head) (map (λ l. l.name) earlier) ≡ true) →
      IsWrong c kind.DeclaredTwice (first_token c p.element.head)
  -- `input` or `output` declared in a body
  port_declared : (b : ℕ) (visible : List Statement) (enclosing : List Scope) (front back : List Placed) (p : Placed) (n : Span) (d : _) → Stands c (inside b) visible enclosing →
      scope_placed c (inside b) visible ≡ front ++ p ∷ back → p.element.head ≡ head.Declared n d → is_port_name (bytes_at c.text n) ≡ true →
      IsWrong c kind.DeclaredTwice n
  -- two parameters with the same name
  formal_twice : (b : ℕ) (visible : List Statement) (enclosing : List Scope) (front back : List Span) (f : Span) → Stands c (inside b) visible enclosing →
      formals_of c (inside b) ≡ front ++ f ∷ back → has_name (bytes_at c.text f) (map (bytes_at c.text) front) ≡ true → IsWrong c kind.DeclaredTwice f
  -- an element of a compound with more or fewer arguments than the compound has parameters
  wrong_parameters : (s : Scope) (visible : List Statement) (enclosing : List Scope) (front back : List Placed) (p : Placed) (b : ℕ) (arguments : List Span) → Stands c s visible enclosing →
      scope_placed c s visible ≡ front ++ p ∷ back → role_in c s visible p ≡ makes → element_meaning c.text p ≡ Some (compound b) →
      AreArguments (string_or_empty c.text p.element.text) arguments → length arguments ≢ length (formals_of c (inside b)) →
      IsWrong c kind.WrongParameters (first_token c p.element.head)
  -- a port that the compound does not have; `output` as a source, or `input` as a target
  no_output : (s : Scope) (visible : List Statement) (enclosing : List Scope) (j : WrittenConnection) (b : ℕ) → Stands c s visible enclosing → Contains (scope_connections c s visible) j →
      j.from.role ≢ pseudo → j.from.meaning ≡ Some (compound b) → port_count (outputs_of c b) ≤ j.out_port → IsWrong c kind.CompoundPort j.from.first
  no_input : (s : Scope) (visible : List Statement) (enclosing : List Scope) (j : WrittenConnection) (b : ℕ) → Stands c s visible enclosing → Contains (scope_connections c s visible) j →
      j.to.role ≢ pseudo → j.to.meaning ≡ Some (compound b) → port_count (inputs_of c b) ≤ j.in_port → IsWrong c kind.CompoundPort j.to.first
  output_as_source : (s : Scope) (visible : List Statement) (enclosing : List Scope) (j : WrittenConnection) → Stands c s visible enclosing → Contains (scope_connections c s visible) j →
      is_pseudo output_name j.from ≡ true → IsWrong c kind.CompoundPort j.from.first
  input_as_target : (s : Scope) (visible : List Statement) (enclosing : List Scope) (j : WrittenConnection) → Stands c s visible enclosing → Contains (scope_connections c s visible) j →
      is_pseudo input_name j.to ≡ true → IsWrong c kind.CompoundPort j.to.first
  -- an unused port of a body below its highest one
  input_gap : (b : ℕ) (visible : List Statement) (enclosing : List Scope) (p : ℕ) → Stands c (inside b) visible enclosing →
      p < port_count (inputs_of c b) → (Contains (inputs_of c b) p → ⊥) → IsWrong c kind.CompoundPort (brace_of c b)
  output_gap : (b : ℕ) (visible : List Statement) (enclosing : List Scope) (p : ℕ) → Stands c (inside b) visible enclosing →
      p < port_count (outputs_of c b) → (Contains (outputs_of c b) p → ⊥) → IsWrong c kind.CompoundPort (brace_of c b)

abbrev pub fault_number : WrongUse → ℕ
fault_number kind.UnknownName = 11
fault_number kind.DeclaredTwice = 12
fault_number kind.UnknownClass = 13
fault_number kind.WrongParameters = 14
fault_number kind.CompoundPort = 15

-- the misuse that comes first in the text; of two at one offset, the one with the lower number
pub record IsFirstWrong (c : Config) (k : WrongUse) (s : Span) : Type 0 where
  pub wrong : IsWrong c k s
  pub first : (j : WrongUse) (t : Span) → IsWrong c j t → (s.start < t.start) ⊎ ((s.start ≡ t.start) × (fault_number k ≤ fault_number j))

abbrev pub IsFaultless : Config → Type 0
IsFaultless c = (k : WrongUse) (s : Span) → IsWrong c k s → ⊥
