-- Global handlers that can be read (Click manual, "Handlers": global handlers). Their names have no
-- dot, and they ignore the text that they are read with.
use Rattle.std.specs.Prelude.{ℕ, List, [], ◌++◌, length, flat_map, codes, decimal, Option, Some, None, Bool, ◌||◌, if◌then◌else◌}
use Rattle.std.specs.Str.{bytes_eq}
use Rattle.click_base.specs.Classes.{classes, gateway_classes, name}
use Rattle.click_base.specs.declared.class.Class.{Class}
use Rattle.click_expand.specs.FlatText.{flat_text_of, uses_gateway}
use Rattle.click_expand.specs.declared.flat.FlatElement.{FlatElement}
use Rattle.click_router.specs.State.{RouterState}

-- the names of the items, each with a line end
abbrev pub lines_of : {X : Type 0} → (X → List ℕ) → List X → List ℕ
lines_of called xs = flat_map (λ x. called x ++ codes "\n") xs

-- the number of elements, and then their names
abbrev pub element_list : List FlatElement → List ℕ
element_list es = (decimal (length es) ++ codes "\n") ++ lines_of (λ (e : FlatElement). e.name) es

-- the thirty classes, and after them those of the gateway package if an element is of one of them
abbrev pub listed_classes : List FlatElement → List Class
listed_classes es = classes ++ (if uses_gateway es then gateway_classes else [])

-- the names of these classes
abbrev pub class_list : List FlatElement → List ℕ
class_list es = lines_of name (listed_classes es)

-- The value of the global handler with that name, if it can be read. `version` is 1. `list` has the
-- flat names in flat order, and `config` is the installed text, unchanged. `flatconfig` is the text
-- of the flat form. `classes` has the classes in the order of the Click element reference, and
-- `overruns` the number of overruns.
unfoldable pub global_value : RouterState → List ℕ → Option (List ℕ)
global_value s handler =
    if bytes_eq handler (codes "version") then Some (codes "1")
    else if bytes_eq handler (codes "list") then Some (element_list s.flat.elements)
    else if bytes_eq handler (codes "config") then Some s.text
    else if bytes_eq handler (codes "flatconfig") then Some (flat_text_of s.flat)
    else if bytes_eq handler (codes "classes") then Some (class_list s.flat.elements)
    else if bytes_eq handler (codes "overruns") then Some (decimal s.plant.overruns)
    else None

-- the names of those handlers
abbrev pub is_global : List ℕ → Bool
is_global handler =
    bytes_eq handler (codes "version") || bytes_eq handler (codes "list") || bytes_eq handler (codes "config") || bytes_eq handler (codes "flatconfig")
    || bytes_eq handler (codes "classes") || bytes_eq handler (codes "overruns")
