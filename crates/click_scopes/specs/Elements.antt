-- The elements of a scope and their names (Click manual, "Elements").
use Rattle.std.specs.Prelude.{ℕ, ◌+◌, List, [], ◌∷◌, ◌++◌, map, filter_map, Bool, ◌&&◌, ◌||◌, Option, Some, None, codes, decimal, if◌then◌else◌}
use Rattle.std.specs.Str.{bytes_eq}
use Rattle.click_base.specs.NameLists.{has_name}
use Rattle.click_text.specs.declared.syntax.Span.{Span}
use Rattle.click_text.specs.declared.syntax.ClassReference.{ClassReference}
use Rattle.click_text.specs.declared.syntax.ClassReference.TheVariants as class
use Rattle.click_text.specs.declared.syntax.Head.{Head}
use Rattle.click_text.specs.declared.syntax.Head.TheVariants as head
use Rattle.click_text.specs.declared.syntax.Element.{Element}
use Rattle.click_text.specs.declared.syntax.Statement.{Statement}
use Rattle.click_text.specs.Spans.{bytes_at, string_text}
use Rattle.click_scopes.specs.Scopes.{statement_elements}
use Rattle.click_scopes.specs.Classes.{Meaning, class_meaning}

-- a written element, and the statements that are visible to its class, of which the last comes
-- first
pub record Placed : Type 0 where
  pub visible : List Statement
  pub element : Element

abbrev pub place : List Statement → Element → Placed
place visible e = record { visible = visible; element = e }

-- the written elements of statements, in the order of the text; `visible` are the statements before
-- them
abbrev pub placed : List Statement → List Statement → List Placed
placed visible [] = []
placed visible (s ∷ ss) = map (place visible) (statement_elements s) ++ placed (s ∷ visible) ss

-- the name under which an element is declared
abbrev pub head_name : List ℕ → Head → Option (List ℕ)
head_name text (head.Word s) = None
head_name text (head.Declared s c) = Some (bytes_at text s)
head_name text (head.Compound b) = None

abbrev pub declared_names : List ℕ → List Placed → List (List ℕ)
declared_names text es = filter_map (λ p. head_name text p.element.head) es

abbrev pub input_name : List ℕ
input_name = codes "input"

abbrev pub output_name : List ℕ
output_name = codes "output"

abbrev pub is_port_name : List ℕ → Bool
is_port_name w = bytes_eq w input_name || bytes_eq w output_name

-- the role of a written element
pub data Role : Type 0 where
  -- one of the body's own ports
  pseudo : Role
  -- an element that is declared in the scope
  refers : Role
  -- a new element
  makes : Role

-- The role of a bare word. In a body, `input` and `output` are its own ports. Any other word means
-- the element that the scope declares under it, before or after, or else it makes an element of
-- that class.
abbrev pub word_role : Bool → List (List ℕ) → List ℕ → Role
word_role in_body declared w =
    if in_body && is_port_name w then pseudo else if has_name w declared then refers else makes

abbrev pub role_of_head : List ℕ → Bool → List (List ℕ) → Head → Option Span → Role
role_of_head text in_body declared (head.Word s) None = word_role in_body declared (bytes_at text s)
role_of_head text in_body declared (head.Word s) (Some string) = makes
role_of_head text in_body declared (head.Declared s c) string = makes
role_of_head text in_body declared (head.Compound b) string = makes

abbrev pub role : List ℕ → Bool → List (List ℕ) → Element → Role
role text in_body declared e = role_of_head text in_body declared e.head e.text

-- the name of an element that is written as a class: the class, `@`, and the number of the element
-- in its scope, from 1
abbrev pub name_with_number : List ℕ → ℕ → List ℕ
name_with_number class before = class ++ codes "@" ++ decimal (before + 1)

-- the local name of an element that follows n others in its scope
abbrev pub made_name : List ℕ → ℕ → Head → List ℕ
made_name text n (head.Word s) = name_with_number (bytes_at text s) n
made_name text n (head.Declared s c) = bytes_at text s
made_name text n (head.Compound b) = name_with_number (codes "Compound") n

abbrev pub word_of : List ℕ → Head → List ℕ
word_of text (head.Word s) = bytes_at text s
word_of text (head.Declared s c) = bytes_at text s
word_of text (head.Compound b) = []

-- the local name of the element that a written element stands for
abbrev pub name_by : List ℕ → ℕ → Head → Role → List ℕ
name_by text n h pseudo = word_of text h
name_by text n h refers = word_of text h
name_by text n h makes = made_name text n h

abbrev pub count_with : Role → ℕ → ℕ
count_with makes n = n + 1
count_with refers n = n
count_with pseudo n = n

-- the class of a new element
abbrev pub head_class : Head → ClassReference
head_class (head.Word s) = class.Named s
head_class (head.Declared s c) = c
head_class (head.Compound b) = class.Body b

abbrev pub element_meaning : List ℕ → Placed → Option Meaning
element_meaning text p = class_meaning text p.visible (head_class p.element.head)

-- An element of a scope: its local name, its class, its configuration string as written, and its
-- head.
pub record ScopeElement : Type 0 where
  pub name : List ℕ
  pub meaning : Option Meaning
  pub text : List ℕ
  pub head : Head

abbrev pub string_or_empty : List ℕ → Option Span → List ℕ
string_or_empty text None = []
string_or_empty text (Some s) = string_text text s

abbrev pub scope_element : List ℕ → ℕ → Placed → ScopeElement
scope_element text n p = record {
  name = made_name text n p.element.head;
  meaning = element_meaning text p;
  text = string_or_empty text p.element.text;
  head = p.element.head;
}

abbrev pub scope_element_by : Role → ScopeElement → List ScopeElement → List ScopeElement
scope_element_by makes l ls = l ∷ ls
scope_element_by refers l ls = ls
scope_element_by pseudo l ls = ls

-- the elements that these written elements make, after n others
unfoldable pub scope_elements_from : List ℕ → Bool → List (List ℕ) → ℕ → List Placed → List ScopeElement
scope_elements_from text in_body declared n [] = []
scope_elements_from text in_body declared n (p ∷ ps) =
    let r = role text in_body declared p.element in
    scope_element_by r (scope_element text n p) (scope_elements_from text in_body declared (count_with r n) ps)
