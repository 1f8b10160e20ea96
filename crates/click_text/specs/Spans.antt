-- The bytes of a span of a text.
use Rattle.std.specs.Prelude.{ℕ, ◌-◌, List, length, take, drop}
use Rattle.click_text.specs.declared.syntax.Span.{Span}

-- the bytes of a span, or those that the text has of it
abbrev pub bytes_at : List ℕ → Span → List ℕ
bytes_at text s = take (s.end - s.start) (drop s.start text)

-- the bytes without the first and the last
abbrev pub without_ends : List ℕ → List ℕ
without_ends bytes = take (length bytes - 2) (drop 1 bytes)

-- the text between the parentheses of a configuration string, whose span is s
abbrev pub string_text : List ℕ → Span → List ℕ
string_text text s = without_ends (bytes_at text s)
