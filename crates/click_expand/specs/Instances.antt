-- The elements of a configuration. A path leads from the whole text inwards: each further element
-- is in the body of the one before. Paths that end at one of the router's classes are the flat
-- elements.
use Rattle.std.specs.Prelude.{◌≡◌, ℕ, ◌+◌, List, [], ◌∷◌, ◌++◌, Some}
use Rattle.click_base.specs.declared.class.Class.{Class}
use Rattle.click_text.specs.declared.syntax.Span.{Span}
use Rattle.click_text.specs.declared.syntax.Statement.{Statement}
use Rattle.click_text.specs.declared.syntax.Config.{Config}
use Rattle.click_text.specs.Spans.{bytes_at}
use Rattle.click_text.specs.Arguments.{AreArguments}
use Rattle.click_scopes.specs.Scopes.{Scope, whole, inside, Stands}
use Rattle.click_scopes.specs.Classes.{primitive, compound}
use Rattle.click_scopes.specs.Elements.{ScopeElement}
use Rattle.click_scopes.specs.Faults.{elements_of_scope, first_token}
use Rattle.click_expand.specs.Parameters.{Bindings, IsReplaced}

-- a flat element by its path: the local names on the way to it, its class, its configuration string
-- with all parameters replaced, and its first token
pub record PrimitiveElement : Type 0 where
  pub path : List (List ℕ)
  pub class : Class
  pub text : List ℕ
  pub first : Span

-- The arguments of a text, each with the parameters of the scopes around it replaced.
pub data AreValues (c : Config) (bindings : Bindings) (enclosing : List Scope) (text : List ℕ) : List Span → List (List ℕ) → Type 0 where
  no_values : AreValues c bindings enclosing text [] []
  next_value : (s : Span) (ss : List Span) (v : List ℕ) (vs : List (List ℕ)) → IsReplaced c bindings enclosing (bytes_at text s) v →
      AreValues c bindings enclosing text ss vs → AreValues c bindings enclosing text (s ∷ ss) (v ∷ vs)

-- `ArePrimitiveElements c scope enclosing path bindings elements flat n`: the flat elements of
-- these elements, in the order of the text, are `flat`. There are n paths to flat elements and
-- compounds. The elements are in the scope at that path, and `bindings` has the arguments of the
-- bodies on the way.
pub data ArePrimitiveElements (c : Config) : Scope → List Scope → List (List ℕ) → Bindings → List ScopeElement → List PrimitiveElement → ℕ → Type 0 where
  no_elements : (s : Scope) (enclosing : List Scope) (path : List (List ℕ)) (bindings : Bindings) → ArePrimitiveElements c s enclosing path bindings [] [] 0
  primitive_element : (s : Scope) (enclosing : List Scope) (path : List (List ℕ)) (bindings : Bindings) (l : ScopeElement) (ls : List ScopeElement) (class : Class) (text : List ℕ) (primitive_elements : List PrimitiveElement) (n : ℕ) →
      l.meaning ≡ Some (primitive class) → IsReplaced c bindings (s ∷ enclosing) l.text text → ArePrimitiveElements c s enclosing path bindings ls primitive_elements n →
      ArePrimitiveElements c s enclosing path bindings (l ∷ ls) (record { path = path ++ l.name ∷ []; class = class; text = text; first = first_token c l.head } ∷ primitive_elements) (n + 1)
  branch : (s : Scope) (enclosing : List Scope) (path : List (List ℕ)) (bindings : Bindings) (l : ScopeElement) (ls : List ScopeElement) (b : ℕ) (visible : List Statement) (outer : List Scope)
      (spans : List Span) (values : List (List ℕ)) (inner primitive_elements : List PrimitiveElement) (m n : ℕ) →
      l.meaning ≡ Some (compound b) → AreArguments l.text spans → AreValues c bindings (s ∷ enclosing) l.text spans values → Stands c (inside b) visible outer →
      ArePrimitiveElements c (inside b) outer (path ++ l.name ∷ []) ((b, values) ∷ bindings) (elements_of_scope c (inside b) visible) inner m →
      ArePrimitiveElements c s enclosing path bindings ls primitive_elements n →
      ArePrimitiveElements c s enclosing path bindings (l ∷ ls) (inner ++ primitive_elements) (m + n + 1)

-- the flat elements of the whole text
abbrev pub PrimitiveElementsOf : Config → List PrimitiveElement → ℕ → Type 0
PrimitiveElementsOf c primitive_elements n = ArePrimitiveElements c whole [] [] [] (elements_of_scope c whole []) primitive_elements n

-- the path leads to an instance of that scope, which comes after these statements
pub data LeadsTo (c : Config) : List (List ℕ) → Scope → List Statement → Type 0 where
  to_whole : LeadsTo c [] whole []
  to_inner : (path : List (List ℕ)) (s : Scope) (visible before after : _) (l : ScopeElement) (b : ℕ) (inner : List Statement) (outer : List Scope) → LeadsTo c path s visible →
      elements_of_scope c s visible ≡ before ++ l ∷ after → l.meaning ≡ Some (compound b) → Stands c (inside b) inner outer →
      LeadsTo c (path ++ l.name ∷ []) (inside b) inner
