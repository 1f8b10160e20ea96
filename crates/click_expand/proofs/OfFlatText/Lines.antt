-- The lines of a flat form's text, as statements.
use Rattle.std.proofs.Common.{◌≡◌, ℕ, ◌<◌, List, [], ◌∷◌, length, Bool, true, false, Option, None, Some}
use Rattle.click_base.specs.Classes.{name as class_name, is_gateway}
use Rattle.click_text.specs.declared.syntax.Statement.TheVariants as statement
use Rattle.click_scopes.specs.Classes.{requires_gateway}
use Rattle.click_text.specs.declared.syntax.Span.{Span}
use Rattle.click_text.specs.declared.syntax.WrittenPort.{WrittenPort}
use Rattle.click_text.specs.declared.syntax.ClassReference.TheVariants as class
use Rattle.click_text.specs.declared.syntax.Head.TheVariants as head
use Rattle.click_text.specs.declared.syntax.Statement.{Statement}
use Rattle.click_text.specs.Grammar.{element, link, chain}
use Rattle.click_text.specs.Spans.{bytes_at}
use Rattle.click_expand.specs.declared.flat.FlatElement.{FlatElement}
use Rattle.click_expand.specs.declared.flat.Connection.{Connection}
use Rattle.click_scopes.specs.Elements.{string_or_empty}
use Rattle.click_scopes.specs.Faults.{port_number}
use Rattle.click_expand.specs.FlatText.{name_at_place}

abbrev pub element_statement : Span → Span → Option Span → Statement
element_statement s w o = chain (element (head.Declared s (class.Named w)) o) []

abbrev pub connection_statement : Span → Span → Option WrittenPort → Option WrittenPort → Statement
connection_statement s t p q = chain (element (head.Word s) None) (link p q (element (head.Word t) None) ∷ [])

-- the spans in the line of an element
pub record IsDeclared (text : List ℕ) (e : FlatElement) (s w : Span) (o : Option Span) : Type 0 where
  pub name : bytes_at text s ≡ e.name
  pub class : bytes_at text w ≡ class_name e.class
  pub string : string_or_empty text o ≡ e.text

-- the spans in the line of a connection
pub record IsJoined (text : List ℕ) (all : List FlatElement) (k : Connection) (s t : Span) (p q : Option WrittenPort) : Type 0 where
  pub from_there : k.from < length all
  pub to_there : k.to < length all
  pub from : bytes_at text s ≡ name_at_place all k.from
  pub to : bytes_at text t ≡ name_at_place all k.to
  pub out_port : port_number p ≡ k.out_port
  pub in_port : port_number q ≡ k.in_port

-- The statements of the lines for these elements and connections, whose ends are among all
-- elements. The truth value says whether the classes of the gateway package are visible before
-- these lines. A line that requires the package makes them visible.
pub data AreLines (text : List ℕ) (all : List FlatElement) : Bool → List FlatElement → List Connection → List Statement → Type 0 where
  no_lines : {g : Bool} → AreLines text all g [] [] []
  required : (es : List FlatElement) (ks : List Connection) (t : Span) (ss : List Statement) → requires_gateway text (Some t) ≡ true →
      AreLines text all true es ks ss → AreLines text all false es ks (statement.Requirement (Some t) ∷ ss)
  first_connection : {g : Bool} (k : Connection) (ks : List Connection) (s t : Span) (p q : Option WrittenPort) (ss : List Statement) → IsJoined text all k s t p q →
      AreLines text all g [] ks ss → AreLines text all g [] (k ∷ ks) (connection_statement s t p q ∷ ss)
  first_element : {g : Bool} (e : FlatElement) (es : List FlatElement) (ks : List Connection) (s w : Span) (o : Option Span) (ss : List Statement) → IsDeclared text e s w o → (is_gateway e.class ≡ true → g ≡ true) →
      AreLines text all g es ks ss → AreLines text all g (e ∷ es) ks (element_statement s w o ∷ ss)
