-- The stored definitions of classes: a list in which each definition has the index of the one that
-- is visible before it. A requirement of the gateway package is stored as one definition.
use Rattle.std.specs.Prelude.{◌≡◌, ◌<◌, ℕ, List, [], ◌∷◌, ◌++◌, map, filter_map, slice_get, Bool, true, false, MatchBool, nat_lt, Option, Some, None, if◌then◌else◌}
use Rattle.click_text.specs.declared.syntax.Span.{Span}
use Rattle.click_text.specs.declared.syntax.Statement.{Statement}
use Rattle.click_text.specs.declared.syntax.Statement.TheVariants as statement
use Rattle.click_text.specs.Spans.{bytes_at}
use Rattle.click_text.specs.declared.syntax.Element.{Element}
use Rattle.click_scopes.specs.Classes.{Meaning, primitive, compound, meaning, requires_gateway, gateway_or}
use Rattle.std.specs.Str.{bytes_eq}
use Rattle.click_scopes.specs.Elements.{Placed, Role, pseudo, refers, makes, role, count_with, head_name, ScopeElement, string_or_empty}
use Rattle.click_scopes.specs.declared.written_scopes.WrittenElement.{WrittenElement}
use Rattle.click_scopes.specs.declared.scope_elements.Role.{Role as RoleKept}
use Rattle.click_scopes.specs.declared.scope_elements.Role.TheVariants as kept
use Rattle.click_scopes.specs.declared.scope_elements.ScopeElement.{ScopeElement as ScopeElementKept}
use Rattle.click_scopes.specs.declared.classes.ResolvedClass.{ResolvedClass}
use Rattle.click_scopes.specs.declared.classes.ResolvedClass.TheVariants as class
use Rattle.click_scopes.specs.declared.classes.ClassEntry.{ClassEntry}

abbrev pub meaning_by : Option ResolvedClass → Option Meaning
meaning_by None = None
meaning_by (Some (class.Primitive k)) = Some (primitive k)
meaning_by (Some (class.Compound b)) = Some (compound b)

-- the index is below n, if there is one
abbrev pub IsBelow : Option ℕ → ℕ → Type 0
IsBelow None n = Unit {0}
IsBelow (Some i) n = i < n

-- At index `place` is a definition with this name and meaning, and what is visible before it is at
-- its index `older`.
pub record IsShown (text : List ℕ) (class_table : List ClassEntry) (visible_class : Option ℕ) (name : Span) (m : Option Meaning) (before : Option ℕ → Type 0) : Type 0 where
  pub place : ℕ
  pub entry : ClassEntry
  pub is : visible_class ≡ Some place
  pub there : slice_get class_table place ≡ Some entry
  pub named : entry.gateway ≡ false
  pub same_name : entry.name ≡ name
  pub class : meaning_by entry.class ≡ m
  pub below : IsBelow entry.older place
  pub older : before entry.older

-- At index `place` is a requirement of the gateway package, and what is visible before it is at its
-- index `older`.
pub record IsRequired (class_table : List ClassEntry) (visible_class : Option ℕ) (before : Option ℕ → Type 0) : Type 0 where
  pub place : ℕ
  pub entry : ClassEntry
  pub is : visible_class ≡ Some place
  pub there : slice_get class_table place ≡ Some entry
  pub gateway : entry.gateway ≡ true
  pub below : IsBelow entry.older place
  pub older : before entry.older

-- from index `visible_class` back, the list has the definitions of these statements, of which the
-- last comes first
abbrev pub Shows : List ℕ → List ClassEntry → Option ℕ → List Statement → Type 0
Shows text class_table visible_class [] = visible_class ≡ None
Shows text class_table visible_class (statement.Definition n b ∷ older) = IsShown text class_table visible_class n (Some (compound b)) (λ t. Shows text class_table t older)
Shows text class_table visible_class (statement.Synonym n c ∷ older) =
    IsShown text class_table visible_class n (meaning text older (bytes_at text c)) (λ t. Shows text class_table t older)
Shows text class_table visible_class (statement.Requirement t ∷ older) =
    MatchBool (requires_gateway text t) (IsRequired class_table visible_class (λ u. Shows text class_table u older)) (Shows text class_table visible_class older)
Shows text class_table visible_class (_ ∷ older) = Shows text class_table visible_class older

-- the definition at an index below a limit, with its index
abbrev pub entry_found : ℕ → Option ClassEntry → Option (ℕ × ClassEntry)
entry_found i None = None
entry_found i (Some e) = Some (i, e)

abbrev pub entry_from : List ClassEntry → Option ℕ → ℕ → Option (ℕ × ClassEntry)
entry_from class_table None limit = None
entry_from class_table (Some i) limit = if nat_lt i limit then entry_found i (slice_get class_table i) else None

-- the meaning of the word w by the definition e, or the other meaning if e does not define w
abbrev pub entry_meaning : List ℕ → ClassEntry → List ℕ → Option Meaning → Option Meaning
entry_meaning text e w other = if e.gateway then gateway_or w other else if bytes_eq (bytes_at text e.name) w then meaning_by e.class else other

-- w is the stored form of the written element p.
pub record IsWrittenElement (text : List ℕ) (class_table : List ClassEntry) (w : WrittenElement) (p : Placed) : Type 0 where
  pub element : w.element ≡ p.element
  pub visible : Shows text class_table w.visible_class p.visible

abbrev pub AreWritten : List ℕ → List ClassEntry → List WrittenElement → List Placed → Type 0
AreWritten text class_table [] [] = Unit {0}
AreWritten text class_table [] (p ∷ ps) = ⊥
AreWritten text class_table (w ∷ ws) [] = ⊥
AreWritten text class_table (w ∷ ws) (p ∷ ps) = IsWrittenElement text class_table w p × AreWritten text class_table ws ps

abbrev pub elements_of : List WrittenElement → List Element
elements_of ws = map (λ (w : WrittenElement). w.element) ws

-- the names under which these elements are declared
abbrev pub names_declared : List ℕ → List Element → List (List ℕ)
names_declared text es = filter_map (λ (e : Element). head_name text e.head) es

-- the role that the code's role stands for
abbrev pub role_kept : RoleKept → Role
role_kept kept.Pseudo = pseudo
role_kept kept.Refers = refers
role_kept kept.Makes = makes

-- the scope element that a stored one stands for
abbrev pub scope_element_of : List ℕ → ScopeElementKept → ScopeElement
scope_element_of text l = record { name = l.name.items; meaning = meaning_by l.class; text = string_or_empty text l.text; head = l.head }

-- the number of elements before each of these written elements, after n others
unfoldable pub numbers_from : List ℕ → Bool → List (List ℕ) → ℕ → List Element → List ℕ
numbers_from text in_body declared n [] = []
numbers_from text in_body declared n (e ∷ es) = n ∷ numbers_from text in_body declared (count_with (role text in_body declared e) n) es

-- the definition that a statement makes after those that are visible before it
abbrev pub IsEntry : List ℕ → List Statement → Option ℕ → Statement → Option ClassEntry → Type 0
IsEntry text visible visible_class (statement.Definition n b) None = ⊥
IsEntry text visible visible_class (statement.Definition n b) (Some e) =
    (e.name ≡ n) × (meaning_by e.class ≡ Some (compound b)) × (e.older ≡ visible_class) × (e.original ≡ None) × (e.gateway ≡ false)
IsEntry text visible visible_class (statement.Synonym n d) None = ⊥
IsEntry text visible visible_class (statement.Synonym n d) (Some e) =
    (e.name ≡ n) × (meaning_by e.class ≡ meaning text visible (bytes_at text d)) × (e.older ≡ visible_class) × (e.original ≡ Some d) × (e.gateway ≡ false)
IsEntry text visible visible_class (statement.Requirement t) None = requires_gateway text t ≡ false
IsEntry text visible visible_class (statement.Requirement t) (Some e) = (requires_gateway text t ≡ true) × (e.gateway ≡ true) × (e.older ≡ visible_class) × (e.original ≡ None)
IsEntry text visible visible_class _ None = Unit {0}
IsEntry text visible visible_class _ (Some e) = ⊥

-- `new` has further definitions after `old`
abbrev pub IsMore : List ClassEntry → List ClassEntry → Type 0
IsMore old new = (more : List ClassEntry) × (new ≡ old ++ more)
