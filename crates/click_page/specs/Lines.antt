-- The lines of metrics in Prometheus' text format 0.0.4.
use Rattle.std.specs.Prelude.{ℕ, ◌==◌, List, [], ◌∷◌, ◌++◌, flat_map, Bool, ◌&&◌, codes, bytes_eq, if◌then◌else◌}
use Rattle.std.specs.List.{list_any, list_all}
use Rattle.std.specs.Char.{is_ascii_digit}
use Rattle.form_urlencoded.specs.Form.{is_nonempty}
use Rattle.click_base.specs.Classes.{name}
use Rattle.click_page.specs.declared.sample.Sample.{Sample}

-- the read handlers whose values may fall, and those whose values only grow until they are reset
abbrev pub levels : List (List ℕ)
levels = codes "length" ∷ codes "highwater_length" ∷ codes "capacity" ∷ codes "switch" ∷ []

abbrev pub totals : List (List ℕ)
totals = codes "count" ∷ codes "byte_count" ∷ codes "drops" ∷ []

abbrev pub is_listed : List (List ℕ) → List ℕ → Bool
is_listed names handler = list_any (bytes_eq handler) names

-- a backslash, a quotation mark and a line feed have a meaning in the value of a label
abbrev pub escaped_byte : ℕ → List ℕ
escaped_byte b = if b == 92 then codes "\\\\" else (if b == 34 then codes "\\\"" else (if b == 10 then codes "\\n" else b ∷ []))

abbrev pub escaped : List ℕ → List ℕ
escaped bytes = flat_map escaped_byte bytes

-- a decimal number, which may have a sign
abbrev pub are_digits : List ℕ → Bool
are_digits bytes = is_nonempty bytes && list_all is_ascii_digit bytes

abbrev pub without_sign : List ℕ → List ℕ
without_sign [] = []
without_sign (b ∷ bytes) = if b == 45 then bytes else b ∷ bytes

abbrev pub is_number : List ℕ → Bool
is_number bytes = are_digits (without_sign bytes)

-- the line of a metric for a sample with this value
unfoldable pub value_line : List ℕ → Sample → List ℕ → List ℕ
value_line metric s value =
    metric ++ codes "{element=\"" ++ escaped s.element ++ codes "\",class=\"" ++ escaped (name s.class) ++ codes "\",handler=\"" ++
    escaped s.handler ++ codes "\"} " ++ value ++ codes "\n"
