-- The class that a name means (Click manual, "Element classes"). A definition is visible from its
-- end on, in its scope and in the bodies inside it. A later definition hides an earlier one. The
-- thirty element classes of the router are visible everywhere, as if they were defined before the
-- text. The statement `require(gateway);` counts as a definition of the classes of the gateway
-- package.
use Rattle.std.specs.Prelude.{ℕ, List, [], ◌∷◌, Bool, false, codes, Option, None, Some, option_map, if◌then◌else◌}
use Rattle.std.specs.Str.{bytes_eq}
use Rattle.click_base.specs.Classes.{class_of, gateway_class_of}
use Rattle.click_base.specs.declared.class.Class.{Class}
use Rattle.click_text.specs.declared.syntax.ClassReference.{ClassReference}
use Rattle.click_text.specs.declared.syntax.ClassReference.TheVariants as class
use Rattle.click_text.specs.declared.syntax.Statement.{Statement}
use Rattle.click_text.specs.declared.syntax.Statement.TheVariants as statement
use Rattle.click_text.specs.Spans.{bytes_at, string_text}
use Rattle.click_text.specs.declared.syntax.Span.{Span}

-- the meaning of a class: one of the router's classes, or the body with this index
pub data Meaning : Type 0 where
  primitive : Class → Meaning
  compound : ℕ → Meaning

abbrev pub primitive_of : List ℕ → Option Meaning
primitive_of w = option_map primitive (class_of w)

-- whether a requirement with this configuration string makes the classes of the gateway package
-- visible, as if they were defined there: the text in its parentheses is exactly `gateway`
abbrev pub requires_gateway : List ℕ → Option Span → Bool
requires_gateway text None = false
requires_gateway text (Some s) = bytes_eq (string_text text s) (codes "gateway")

-- the class, or the other meaning if there is no class
abbrev pub class_or : Option Class → Option Meaning → Option Meaning
class_or None other = other
class_or (Some c) other = Some (primitive c)

-- the class of the gateway package with the name w, or the other meaning if there is none
abbrev pub gateway_or : List ℕ → Option Meaning → Option Meaning
gateway_or w other = class_or (gateway_class_of w) other

-- the meaning of a word after these statements, of which the last comes first
unfoldable pub meaning : List ℕ → List Statement → List ℕ → Option Meaning
meaning text [] w = primitive_of w
meaning text (statement.Definition n b ∷ older) w = if bytes_eq (bytes_at text n) w then Some (compound b) else meaning text older w
meaning text (statement.Synonym n d ∷ older) w =
    if bytes_eq (bytes_at text n) w then meaning text older (bytes_at text d) else meaning text older w
meaning text (statement.Requirement t ∷ older) w = if requires_gateway text t then gateway_or w (meaning text older w) else meaning text older w
meaning text (_ ∷ older) w = meaning text older w

abbrev pub class_meaning : List ℕ → List Statement → ClassReference → Option Meaning
class_meaning text visible (class.Named s) = meaning text visible (bytes_at text s)
class_meaning text visible (class.Body b) = Some (compound b)
