-- The arguments of IPFilter: an action and a pattern.
use Rattle.std.specs.Prelude.{◌≡◌, ℕ, List, [], ◌∷◌, length, drop, codes, Option, Some, None, option_map, if◌then◌else◌}
use Rattle.std.specs.Str.{bytes_eq}
use Rattle.click_filter.specs.declared.rule.Action.{Action}
use Rattle.click_filter.specs.declared.rule.Action.TheVariants as action
use Rattle.click_filter.specs.Trees.{Tree}
use Rattle.click_patterns.specs.Values.{number, small_or}
use Rattle.click_patterns.specs.Tokens.{white, word}
use Rattle.click_patterns.specs.Grammar.{IsPattern}

-- the text without the white space at its front
abbrev pub without_white : List ℕ → List ℕ
without_white [] = []
without_white (b ∷ text) = if white b then without_white text else b ∷ text

-- the action that a word names: `allow`, `deny`, `drop` or the number of an output
unfoldable pub action_of : List ℕ → Option Action
action_of w =
    if bytes_eq (codes "allow") w then Some (action.Output 0)
    else if bytes_eq (codes "deny") w then Some action.Drop
    else if bytes_eq (codes "drop") w then Some action.Drop
    else option_map (λ n. action.Output n) (small_or (number w) None)

-- an action, which is the first word, and a pattern
abbrev pub IsArgument : List ℕ → Action → Tree → Type 0
IsArgument text a t = let rest = without_white text in (action_of (word rest) ≡ Some a) × IsPattern (drop (length (word rest)) rest) t
