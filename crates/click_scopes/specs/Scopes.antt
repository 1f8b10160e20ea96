-- The scopes of a configuration (Click manual, "Compound elements"): the whole text, and each body.
use Rattle.std.specs.Prelude.{◌≡◌, ℕ, List, [], ◌∷◌, ◌++◌, reverse, map, slice_get, Contains, Bool, true, false, Option, Some, None}
use Rattle.click_text.specs.declared.syntax.Span.{Span}
use Rattle.click_text.specs.declared.syntax.ClassReference.{ClassReference}
use Rattle.click_text.specs.declared.syntax.ClassReference.TheVariants as class
use Rattle.click_text.specs.declared.syntax.Head.{Head}
use Rattle.click_text.specs.declared.syntax.Head.TheVariants as head
use Rattle.click_text.specs.declared.syntax.Element.{Element}
use Rattle.click_text.specs.declared.syntax.Link.{Link}
use Rattle.click_text.specs.declared.syntax.Statement.{Statement}
use Rattle.click_text.specs.declared.syntax.Statement.TheVariants as statement
use Rattle.click_text.specs.declared.syntax.Body.{Body}
use Rattle.click_text.specs.declared.syntax.Config.{Config}
use Rattle.click_text.specs.Grammar.{element}

-- the whole text, or the body with this index
pub data Scope : Type 0 where
  whole : Scope
  inside : ℕ → Scope

abbrev pub is_body : Scope → Bool
is_body whole = false
is_body (inside b) = true

abbrev pub body_statements : Option Body → List Statement
body_statements None = []
body_statements (Some b) = b.statements

abbrev pub statements_of : Config → Scope → List Statement
statements_of c whole = c.statements
statements_of c (inside b) = body_statements (slice_get c.bodies b)

abbrev pub body_formals : Option Body → List Span
body_formals None = []
body_formals (Some b) = b.formals

abbrev pub formals_of : Config → Scope → List Span
formals_of c whole = []
formals_of c (inside b) = body_formals (slice_get c.bodies b)

-- the written elements of a statement; a declaration writes one for each of its names
abbrev pub statement_elements : Statement → List Element
statement_elements (statement.Chain c) = c.first ∷ map (λ l. l.element) c.links
statement_elements (statement.Declaration d) = map (λ n. element (head.Declared n d.class) d.text) d.names
statement_elements (statement.Definition n b) = []
statement_elements (statement.Synonym n c) = []
statement_elements (statement.Requirement t) = []

abbrev pub class_bodies : ClassReference → List ℕ
class_bodies (class.Named s) = []
class_bodies (class.Body b) = b ∷ []

abbrev pub head_bodies : Head → List ℕ
head_bodies (head.Word s) = []
head_bodies (head.Declared s c) = class_bodies c
head_bodies (head.Compound b) = b ∷ []

abbrev pub link_bodies : List Link → List ℕ
link_bodies [] = []
link_bodies (l ∷ ls) = head_bodies l.element.head ++ link_bodies ls

-- the bodies in a statement that are in no body inside it
abbrev pub bodies_in : Statement → List ℕ
bodies_in (statement.Chain c) = head_bodies c.first.head ++ link_bodies c.links
bodies_in (statement.Declaration d) = class_bodies d.class
bodies_in (statement.Definition n b) = b ∷ []
bodies_in (statement.Synonym n c) = []
bodies_in (statement.Requirement t) = []

-- `Stands c scope visible enclosing`: the scope occurs in the configuration, inside the scopes
-- `enclosing`, of which the nearest comes first. `visible` are the statements before it in these
-- scopes, of which the last comes first.
pub data Stands (c : Config) : Scope → List Statement → List Scope → Type 0 where
  at_top : Stands c whole [] []
  nested : (s : Scope) (visible : List Statement) (enclosing : List Scope) (before after : List Statement) (st : Statement) (b : ℕ) →
      Stands c s visible enclosing → statements_of c s ≡ before ++ st ∷ after → Contains (bodies_in st) b →
      Stands c (inside b) (reverse before ++ visible) (s ∷ enclosing)
