-- Parameters of texts by their bytes, in the form in which the code finds them.
use Rattle.std.specs.Prelude.{ℕ, ◌+◌, List, [], ◌∷◌, take, drop, Bool, false, eqb, Option, Some, None, if◌then◌else◌}
use Rattle.std.specs.List.{prefix_len}
use Rattle.click_text.specs.Pieces.{name_byte}
use Rattle.click_text.specs.Spans.{bytes_at}
use Rattle.click_expand.specs.Parameters.{Formal}
use Rattle.click_expand.specs.declared.texts.parameters.Parameter.{Parameter}

-- the parameter at the beginning of a text
abbrev pub formal_of : List ℕ → Parameter → Formal
formal_of text p = record { name = bytes_at text p.name; size = p.size }

-- The parameter whose name is the first n bytes of a text, and which has `extra` further bytes;
-- none if n is 0.
abbrev pub formal_by : List ℕ → ℕ → ℕ → Option Formal
formal_by text n extra = if eqb n 0 then None else Some (record { name = take n text; size = n + extra })

abbrev pub formal_run : List ℕ → ℕ → Option Formal
formal_run text extra = formal_by text (prefix_len name_byte text) extra

abbrev pub begins_with : ℕ → List ℕ → Bool
begins_with b [] = false
begins_with b (x ∷ text) = eqb b x

-- the parameter after `$`
abbrev pub formal_after : List ℕ → Option Formal
formal_after [] = None
formal_after (b ∷ text) =
    if eqb 123 b
    then (if begins_with 125 (drop (prefix_len name_byte text) text) then formal_run text 3 else None)
    else formal_run (b ∷ text) 1

abbrev pub formal_in : List ℕ → Option Formal
formal_in [] = None
formal_in (b ∷ text) = if eqb 36 b then formal_after text else None
