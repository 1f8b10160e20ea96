-- What the code knows of a scope's names while it finds the ends of connections.
use Rattle.std.specs.Prelude.{◌≡◌, ℕ, List, [], ◌∷◌, map, slice_get, Bool, Option, Some, None, position}
use Rattle.std.specs.Str.{bytes_eq}
use Rattle.click_text.specs.declared.syntax.Element.{Element}
use Rattle.click_text.specs.declared.syntax.Statement.{Statement}
use Rattle.click_text.specs.declared.syntax.Config.{Config}
use Rattle.click_scopes.specs.Elements.{Placed, placed, head_name, declared_names, ScopeElement, scope_elements_from}
use Rattle.click_base.specs.NameLists.{has_name}
use Rattle.click_scopes.specs.Faults.{ScopeNames, written_end, number_behind, is_declared_as, written_connections_from}
use Rattle.click_scopes.specs.kept.Tables.{elements_of, numbers_from}
use Rattle.click_scopes.specs.kept.Scoped.{ports_in}
use Rattle.click_scopes.specs.kept.WrittenConnections.{IsEndKept, AreWrittenConnections}
use Rattle.click_scopes.specs.declared.written_scopes.WrittenElement.{WrittenElement}
use Rattle.click_scopes.specs.declared.written_connections.End.{End as EndKept}
use Rattle.click_scopes.specs.declared.written_connections.WrittenConnection.{WrittenConnection as ConnectionKept}

abbrev pub placed_elements : List Placed → List Element
placed_elements ps = map (λ (p : Placed). p.element) ps

-- the names of a scope with these elements
abbrev pub names_among : List ℕ → Bool → List Placed → ScopeNames
names_among text in_body ps = record { in_body = in_body; declared = declared_names text ps; written = ps }

abbrev pub scope_elements_in : List ℕ → Bool → List Placed → List ScopeElement
scope_elements_in text in_body ps = scope_elements_from text in_body (declared_names text ps) 0 ps

abbrev pub at : List ℕ → Option ℕ → Option ℕ
at xs None = None
at xs (Some i) = slice_get xs i

-- the element is declared under the name
abbrev pub declares : List ℕ → List ℕ → Element → Bool
declares text name e = is_declared_as text name (head_name text e.head)

-- `names` are the names under which the elements are declared, and `firsts` has the index of the
-- first element for each name.
pub record AreDeclared (text : List ℕ) (es : List Element) (names : List (List ℕ)) (firsts : List ℕ) : Type 0 where
  pub first : (q : List ℕ) → at firsts (position (bytes_eq q) names) ≡ position (declares text q) es

-- What is known of a scope with these elements: the names that it declares, and the number of
-- elements before each written element.
pub record AreNamesKnown (text : List ℕ) (in_body : Bool) (names : List (List ℕ)) (firsts numbers : List ℕ) (ps : List Placed) : Type 0 where
  pub declared : AreDeclared text (placed_elements ps) names firsts
  pub has : (q : List ℕ) → has_name q names ≡ has_name q (declared_names text ps)
  pub counts : numbers ≡ numbers_from text in_body (declared_names text ps) 0 (placed_elements ps)

-- The written element is one of these, and `number` elements come before it.
pub record IsHere (numbers : List ℕ) (number : ℕ) (e : Element) (ps : List Placed) (p : Placed) : Type 0 where
  pub place : ℕ
  pub there : slice_get ps place ≡ Some p
  pub before : slice_get numbers place ≡ Some number
  pub element : p.element ≡ e

-- the stored ends at these written elements, after n elements
abbrev pub AreEndsKept : List ScopeElement → Config → ScopeNames → ℕ → List EndKept → List Placed → Type 0
AreEndsKept ls c names n [] [] = Unit {0}
AreEndsKept ls c names n [] (p ∷ ps) = ⊥
AreEndsKept ls c names n (k ∷ ks) [] = ⊥
AreEndsKept ls c names n (k ∷ ks) (p ∷ ps) = IsEndKept ls k (written_end c names n p) × AreEndsKept ls c names (number_behind c names n p) ks ps

-- the connections of a scope with these elements, for any statements that write them
abbrev pub AreWrittenConnectionsOf : Config → Bool → List WrittenElement → List ConnectionKept → Type 0
AreWrittenConnectionsOf c in_body ws ks =
    (visible statements : List Statement) → placed_elements (placed visible statements) ≡ elements_of ws → map (λ (w : WrittenElement). w.ports) ws ≡ ports_in statements →
    AreWrittenConnections (scope_elements_in c.text in_body (placed visible statements)) ks (written_connections_from c (names_among c.text in_body (placed visible statements)) visible 0 statements)

-- the connection between two ends, if there is an end before and ports connect them
abbrev pub written_connection_by : Option EndKept → Option (ℕ × ℕ) → EndKept → Option ConnectionKept
written_connection_by None ports to = None
written_connection_by (Some from) None to = None
written_connection_by (Some from) (Some p) to = Some (record { from = from; out_port = p.0; to = to; in_port = p.1 })
