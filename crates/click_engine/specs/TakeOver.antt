-- What a plant takes over from the plant of the old configuration (Click manual, "hot swapping").
use Rattle.std.specs.Prelude.{ℕ, List, [], ◌∷◌, position, slice_get, Option, Some, None, option_and_then}
use Rattle.std.specs.Str.{bytes_eq}
use Rattle.click_classes.specs.TakeOver.{taken_over}
use Rattle.click_engine.specs.declared.run_state.Element.{Element}
use Rattle.click_engine.specs.Plant.{Plant}

-- the index of the element with a flat name, and the element
abbrev pub place_of : Plant → List ℕ → Option ℕ
place_of v name = position (bytes_eq name) v.net.names

abbrev pub named : Plant → List ℕ → Option Element
named v name = option_and_then (slice_get v.elements) (place_of v name)

-- an element takes over from the old one, with its own number of outputs
abbrev pub with_taken_over : Element → Option Element → Element
with_taken_over e None = e
with_taken_over e (Some before) = record e { state = taken_over e.outputs e.state before.state }

-- each element takes over from the old element with its name
abbrev pub each_taken : Plant → List (List ℕ) → List Element → List Element
each_taken old [] es = es
each_taken old (name ∷ names) [] = []
each_taken old (name ∷ names) (e ∷ es) = with_taken_over e (named old name) ∷ each_taken old names es

-- the new plant after it took over from the old one, with the old number of overruns
abbrev pub taken : Plant → Plant → Plant
taken v old = record v { elements = each_taken old v.net.names v.elements; overruns = old.overruns }
