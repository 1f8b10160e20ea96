-- What the code stores of the statements of a scope.
use Rattle.std.specs.Prelude.{◌≡◌, ◌⊎◌, ℕ, List, [], ◌∷◌, ◌++◌, reverse, map, slice_get, Contains, Option, Some, None}
use Rattle.std.specs.List.{cons_option}
use Rattle.click_text.specs.declared.syntax.Span.{Span}
use Rattle.click_text.specs.declared.syntax.Head.TheVariants as head
use Rattle.click_text.specs.declared.syntax.Element.{Element}
use Rattle.click_text.specs.declared.syntax.Link.{Link}
use Rattle.click_text.specs.declared.syntax.Declaration.{Declaration}
use Rattle.click_text.specs.declared.syntax.Statement.{Statement}
use Rattle.click_text.specs.declared.syntax.Statement.TheVariants as statement
use Rattle.click_text.specs.Grammar.{element}
use Rattle.click_text.specs.Spans.{bytes_at}
use Rattle.click_scopes.specs.Classes.{Meaning, meaning}
use Rattle.click_scopes.specs.Faults.{port_number}
use Rattle.click_scopes.specs.declared.written_scopes.WrittenElement.{WrittenElement}
use Rattle.click_scopes.specs.declared.written_scopes.NestedBody.{NestedBody}
use Rattle.click_scopes.specs.declared.classes.ClassEntry.{ClassEntry}
use Rattle.click_scopes.specs.Scopes.{bodies_in}
use Rattle.click_scopes.specs.kept.Nesting.{direct}
use Rattle.click_scopes.specs.kept.Tables.{meaning_by, Shows, IsEntry}

abbrev pub kept_element : Element → Option ℕ → Option (ℕ × ℕ) → WrittenElement
kept_element e visible_class ports = record { element = e; visible_class = visible_class; ports = ports }

abbrev pub kept_link : Option ℕ → Link → WrittenElement
kept_link visible_class l = kept_element l.element visible_class (Some (port_number l.from, port_number l.to))

abbrev pub kept_name : Declaration → Option ℕ → Span → WrittenElement
kept_name d visible_class n = kept_element (element (head.Declared n d.class) d.text) visible_class None

-- the stored elements of a statement
abbrev pub kept_elements : Option ℕ → Statement → List WrittenElement
kept_elements visible_class (statement.Chain k) = kept_element k.first visible_class None ∷ map (λ l. kept_link visible_class l) k.links
kept_elements visible_class (statement.Declaration d) = map (λ n. kept_name d visible_class n) d.names
kept_elements visible_class (statement.Definition n b) = []
kept_elements visible_class (statement.Synonym n d) = []
kept_elements visible_class (statement.Requirement t) = []

abbrev pub nested_body : ℕ → Option ℕ → ℕ → NestedBody
nested_body parent visible_class b = record { body = b; parent = parent; visible_class = visible_class }

-- P holds of each item of the list
abbrev pub Each : {X : Type 0} → (X → Type 0) → List X → Type 0
Each P [] = Unit {0}
Each P (x ∷ xs) = P x × Each P xs

-- A body in one of these statements, and what is visible before it.
pub record IsNestedBody (text : List ℕ) (class_table : List ClassEntry) (scope : ℕ) (visible statements : List Statement) (r : NestedBody) : Type 0 where
  pub before : List Statement
  pub after : List Statement
  pub statement : Statement
  pub splits : statements ≡ before ++ statement ∷ after
  pub there : Contains (bodies_in statement) r.body
  pub shows : Shows text class_table r.visible_class (reverse before ++ visible)
  pub parent : r.parent ≡ scope

-- the bodies in these statements were appended
pub record AreNestedBodies (text : List ℕ) (class_table : List ClassEntry) (scope : ℕ) (visible statements : List Statement) (old new : List NestedBody) : Type 0 where
  pub more : List NestedBody
  pub is : new ≡ old ++ more
  pub bodies : map (λ (r : NestedBody). r.body) more ≡ direct statements
  pub each : Each (IsNestedBody text class_table scope visible statements) more

abbrev pub written_ports : List WrittenElement → List (Option (ℕ × ℕ))
written_ports ws = map (λ (w : WrittenElement). w.ports) ws

-- What a statement appends to the definitions: one definition, or none.
pub record IsDefined (text : List ℕ) (visible : List Statement) (visible_class : Option ℕ) (st : Statement) (old new : List ClassEntry) : Type 0 where
  pub entry : Option ClassEntry
  pub is : IsEntry text visible visible_class st entry
  pub added : new ≡ old ++ cons_option entry []

-- One of these definitions is this synonym, with this meaning.
pub record HasSynonym (text : List ℕ) (class_table : List ClassEntry) (original : Span) (m : Option Meaning) : Type 0 where
  pub place : ℕ
  pub entry : ClassEntry
  pub there : slice_get class_table place ≡ Some entry
  pub is : entry.original ≡ Some original
  pub class : meaning_by entry.class ≡ m

-- A synonym among these statements, and the meaning of its class.
pub record IsSynonymAmong (text : List ℕ) (visible statements : List Statement) (original : Span) (m : Option Meaning) : Type 0 where
  pub before : List Statement
  pub after : List Statement
  pub name : Span
  pub splits : statements ≡ before ++ statement.Synonym name original ∷ after
  pub meaning : m ≡ meaning text (reverse before ++ visible) (bytes_at text original)

-- the synonyms among the appended definitions are exactly those of these statements
pub record AddsSynonyms (text : List ℕ) (visible statements : List Statement) (old new : List ClassEntry) : Type 0 where
  pub sound : (i : ℕ) (e : ClassEntry) (w : Span) → slice_get new i ≡ Some e → e.original ≡ Some w →
      (slice_get old i ≡ Some e) ⊎ IsSynonymAmong text visible statements w (meaning_by e.class)
  pub complete : (before after : List Statement) (n w : Span) → statements ≡ before ++ statement.Synonym n w ∷ after →
      HasSynonym text new w (meaning text (reverse before ++ visible) (bytes_at text w))
