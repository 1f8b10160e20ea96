-- The state of `unquote` while it replaces escapes.
use Rattle.std.specs.Prelude.{◌≡◌, ℕ, ◌<◌, List, ◌++◌, Bool, true, false, Option, Some, None}
use Rattle.click_text.specs.declared.argument_bytes.Escape.{Escape}
use Rattle.click_text.specs.declared.argument_bytes.Escape.TheVariants as escape

-- the value of a first digit is less than 16
abbrev pub fits_digit : Escape → Type 0
fits_digit (escape.Half h) = h < 16
fits_digit _ = Unit {0}

-- these bytes were appended to a list; or there are none, for bad quoting
abbrev pub IsExtendedBy : Bool → Option (List ℕ) → List ℕ → List ℕ → Type 0
IsExtendedBy true bytes old new = (p : List ℕ) × (bytes ≡ Some p) × (new ≡ old ++ p)
IsExtendedBy false bytes old new = bytes ≡ None
