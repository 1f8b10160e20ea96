-- What `arguments` has found so far of the argument that it is reading.
use Rattle.std.specs.Prelude.{ℕ, List, length, eqb, Bool, false, Option, Some, None, if◌then◌else◌}
use Rattle.click_text.specs.declared.syntax.Span.{Span}
use Rattle.click_text.specs.declared.items.ItemKind.{ItemKind}
use Rattle.click_text.specs.Pieces.{span}
use Rattle.click_text.specs.Items.{blank_kind}

-- the span of an argument that ends at offset `at`: what was found of it, or an empty span if it
-- was only white space and comments
abbrev pub found_or : Option Span → ℕ → Span
found_or (Some s) at = s
found_or None at = span at at

abbrev pub grown_to : Option Span → ℕ → ℕ → Option Span
grown_to (Some s) a b = Some (span s.start b)
grown_to None a b = Some (span a b)

-- what was found after one more item, with the span a to b
abbrev pub grown_argument : Option Span → ItemKind → ℕ → ℕ → Option Span
grown_argument f k a b = if blank_kind k then f else grown_to f a b

-- no argument was completed, and nothing of the next one was found
abbrev pub is_nothing : List Span → Option Span → Bool
is_nothing spans None = eqb (length spans) 0
is_nothing spans (Some s) = false
