-- Configuration strings: their quotes and comments (Click manual, "Configuration strings").
use Rattle.std.specs.Prelude.{ℕ, ◌+◌, ◌-◌, List, [], ◌∷◌, Bool, true, false, ◌&&◌, eqb, if◌then◌else◌}
use Rattle.click_text.specs.declared.strings.Mode.{Mode}
use Rattle.click_text.specs.declared.strings.Mode.TheVariants as mode

-- the mode after a byte that is outside quotes and comments
abbrev pub plain_after : ℕ → Mode
plain_after b =
    if eqb b 34 then mode.Double else if eqb b 39 then mode.Single else if eqb b 47 then mode.Slash else if eqb b 92 then mode.Backslash else mode.Plain

-- the mode after a byte
abbrev pub mode_after : Mode → ℕ → Mode
-- outside quotes and comments
mode_after mode.Plain b = plain_after b
-- after a `/` that begins a comment with this byte, or else stands for itself
mode_after mode.Slash b = if eqb b 47 then mode.Line else if eqb b 42 then mode.Block else plain_after b
-- after a `\` that begins a quote with this byte, or else stands for itself
mode_after mode.Backslash b = if eqb b 60 then mode.Angle else plain_after b
-- in `".."`, where a `\` takes the next byte with it
mode_after mode.Double b = if eqb b 34 then mode.Plain else if eqb b 92 then mode.Escape else mode.Double
mode_after mode.Escape b = mode.Double
-- in `'..'`
mode_after mode.Single b = if eqb b 39 then mode.Plain else mode.Single
-- in `\<..>`
mode_after mode.Angle b = if eqb b 62 then mode.Plain else mode.Angle
-- in a comment that ends with the next LF
mode_after mode.Line b = if eqb b 10 then mode.Plain else mode.Line
-- in a comment that ends with the next `*/`
mode_after mode.Block b = if eqb b 42 then mode.Star else mode.Block
mode_after mode.Star b = if eqb b 47 then mode.Plain else if eqb b 42 then mode.Star else mode.Block

-- the next byte is outside quotes and comments, unless it begins one
abbrev pub is_outside : Mode → Bool
is_outside mode.Plain = true
is_outside mode.Slash = true
is_outside mode.Backslash = true
is_outside _ = false

-- the number of open parentheses after a byte
abbrev pub depth_after : Mode → ℕ → ℕ → ℕ
depth_after m depth b =
    if is_outside m && eqb b 40 then depth + 1 else if is_outside m && eqb b 41 then depth - 1 else depth

-- the byte closes the only open parenthesis
abbrev pub closes_outermost : Mode → ℕ → ℕ → Bool
closes_outermost m depth b = is_outside m && eqb b 41 && eqb depth 1

-- with `depth` parentheses open, the last of these bytes closes the outermost one, and no byte
-- before it does
abbrev pub closes : Mode → ℕ → List ℕ → Bool
closes m depth [] = false
closes m depth (b ∷ []) = closes_outermost m depth b
closes m depth (b ∷ c ∷ bs) = if closes_outermost m depth b then false else closes (mode_after m b) (depth_after m depth b) (c ∷ bs)
