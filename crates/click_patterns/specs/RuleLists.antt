-- The lists of rules that the arguments of an element spell, and lists of rules whose patterns are in
-- flat form.
use Rattle.std.specs.Prelude.{◌≡◌, ℕ, ◌+◌, List, [], ◌∷◌, Bool, false, not, ◌||◌, ◌&&◌, max, if◌then◌else◌}
use Rattle.click_filter.specs.declared.rule.Action.{Action}
use Rattle.click_filter.specs.declared.rule.Action.TheVariants as action
use Rattle.click_filter.specs.declared.pattern.Node.{Node}
use Rattle.click_filter.specs.declared.pattern.Node.TheVariants as node
use Rattle.click_filter.specs.Tests.{holds}
use Rattle.click_filter.specs.Trees.{flat}
use Rattle.click_filter.specs.Rules.{Ruling}
use Rattle.click_patterns.specs.declared.rules.FlatRule.{FlatRule}
use Rattle.click_patterns.specs.declared.rules.RuleForm.{RuleForm}
use Rattle.click_patterns.specs.declared.rules.RuleForm.TheVariants as form
use Rattle.click_patterns.specs.Grammar.{IsPattern}
use Rattle.click_patterns.specs.Arguments.{IsArgument}

-- ---- the rules that texts spell

-- The text with index k spells this rule (Click element reference, "IPFilter", "IPClassifier"). A
-- pattern alone sends its packets to the output with its index.
abbrev pub IsSpelled : RuleForm → ℕ → List ℕ → Ruling → Type 0
IsSpelled form.WithAction k text r = IsArgument text r.0 r.1
IsSpelled form.PatternAlone k text r = (r.0 ≡ action.Output k) × IsPattern text r.1

-- the texts, of which the first has index k, spell these rules
abbrev pub AreSpelledFrom : RuleForm → ℕ → List (List ℕ) → List Ruling → Type 0
AreSpelledFrom f k [] [] = Unit {0}
AreSpelledFrom f k (text ∷ texts) (r ∷ rs) = IsSpelled f k text r × AreSpelledFrom f (k + 1) texts rs
AreSpelledFrom f k [] (r ∷ rs) = ⊥
AreSpelledFrom f k (text ∷ texts) [] = ⊥

abbrev pub AreSpelled : RuleForm → List (List ℕ) → List Ruling → Type 0
AreSpelled f texts rs = AreSpelledFrom f 0 texts rs

-- ---- rules in flat form

abbrev pub flat_rule : Ruling → FlatRule
flat_rule r = record { action = r.0; nodes = flat r.1 }

-- The values of what was read of a pattern in flat form (reverse Polish notation), with the next
-- node. The last value is the first of the list. A test adds its outcome, and `not`, `and` and `or`
-- join the last values.
abbrev pub joined_by : Node → List Bool → List ℕ → List Bool
joined_by (node.Test t) values b = holds t b ∷ values
joined_by node.Not (x ∷ values) b = not x ∷ values
joined_by node.And (y ∷ x ∷ values) b = (x && y) ∷ values
joined_by node.Or (y ∷ x ∷ values) b = (x || y) ∷ values
joined_by _ values b = values

abbrev pub values_of : List Node → List Bool → List ℕ → List Bool
values_of [] values b = values
values_of (n ∷ nodes) values b = values_of nodes (joined_by n values b) b

abbrev pub last_value : List Bool → Bool
last_value [] = false
last_value (x ∷ values) = x

-- whether a pattern in flat form is true for a packet with these bytes
abbrev pub flat_truth : List Node → List ℕ → Bool
flat_truth nodes b = last_value (values_of nodes [] b)

-- what the rules do to a packet with these bytes: the first one whose pattern is true decides
abbrev pub decided : List FlatRule → List ℕ → Action
decided [] b = action.Drop
decided (r ∷ rs) b = if flat_truth r.nodes b then r.action else decided rs b

-- the number of outputs that an action needs
abbrev pub outputs_for : Action → ℕ
outputs_for (action.Output n) = n + 1
outputs_for action.Drop = 0

-- the number of outputs that all actions need: the greatest number that an action names, and one
abbrev pub outputs_of : List FlatRule → ℕ
outputs_of [] = 0
outputs_of (r ∷ rs) = max (outputs_for r.action) (outputs_of rs)
