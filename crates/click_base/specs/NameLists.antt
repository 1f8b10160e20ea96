-- Lists of names.

use Rattle.std.specs.Prelude.{ℕ, List, Bool}
use Rattle.std.specs.List.{list_any}
use Rattle.std.specs.Str.{bytes_eq}

abbrev pub has_name : List ℕ → List (List ℕ) → Bool
has_name name known = list_any (bytes_eq name) known
