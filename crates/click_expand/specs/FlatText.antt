-- A flat configuration as text: a line for each element, and then a line for each connection. If an
-- element is of a class of the gateway package, the text begins with a line that requires the
-- package.
use Rattle.std.specs.Prelude.{ℕ, Bool, List, [], ◌∷◌, ◌++◌, flat_map, slice_get, Option, Some, None, nat_eq, codes, decimal, if◌then◌else◌}
use Rattle.std.specs.List.{list_any}
use Rattle.click_base.specs.Classes.{name, is_gateway}
use Rattle.click_expand.specs.declared.flat.FlatElement.{FlatElement}
use Rattle.click_expand.specs.declared.flat.Connection.{Connection}
use Rattle.click_expand.specs.declared.flat.Flat.{Flat}

-- a configuration string in parentheses; an empty one is left out
abbrev pub string_of : List ℕ → List ℕ
string_of [] = []
string_of (b ∷ text) = codes "(" ++ (b ∷ text) ++ codes ")"

abbrev pub element_line : FlatElement → List ℕ
element_line e = e.name ++ codes " :: " ++ name e.class ++ string_of e.text ++ codes ";\n"

-- a port in brackets; port 0 is left out
abbrev pub out_port : ℕ → List ℕ
out_port p = if nat_eq p 0 then [] else codes " [" ++ decimal p ++ codes "]"

abbrev pub in_port : ℕ → List ℕ
in_port p = if nat_eq p 0 then [] else codes "[" ++ decimal p ++ codes "] "

abbrev pub name_or_empty : Option FlatElement → List ℕ
name_or_empty None = []
name_or_empty (Some e) = e.name

abbrev pub name_at_place : List FlatElement → ℕ → List ℕ
name_at_place es i = name_or_empty (slice_get es i)

abbrev pub connection_line : List FlatElement → Connection → List ℕ
connection_line es k = name_at_place es k.from ++ out_port k.out_port ++ codes " -> " ++ in_port k.in_port ++ name_at_place es k.to ++ codes ";\n"

-- one of the elements is of a class of the gateway package
abbrev pub uses_gateway : List FlatElement → Bool
uses_gateway es = list_any (λ (e : FlatElement). is_gateway e.class) es

-- the line that requires the gateway package; it is left out if no element is of one of its classes
abbrev pub requirement : List FlatElement → List ℕ
requirement es = if uses_gateway es then codes "require(gateway);\n" else []

abbrev pub flat_text_of : Flat → List ℕ
flat_text_of f = requirement f.elements ++ flat_map element_line f.elements ++ flat_map (connection_line f.elements) f.connections
