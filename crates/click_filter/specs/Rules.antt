-- Lists of rules: the first rule whose pattern is true decides what happens to a packet.
use Rattle.std.specs.Prelude.{◌≡◌, ℕ, ◌+◌, List, [], ◌∷◌, true, if◌then◌else◌}
use Rattle.click_filter.specs.declared.rule.Action.{Action}
use Rattle.click_filter.specs.declared.rule.Action.TheVariants as action
use Rattle.click_filter.specs.declared.rule.Rule.{Rule}
use Rattle.click_filter.specs.declared.test.Test.TheVariants as test
use Rattle.click_filter.specs.Trees.{Tree, leaf, truth, tests, flat}

-- a rule: an action and a pattern
abbrev pub Ruling : Type 0
Ruling = Action × Tree

abbrev pub rule : Action → Tree → Ruling
rule action t = (action, t)

-- the pattern `all`
abbrev pub always : Tree
always = leaf (test.Constant true)

-- what the rules do to a packet with these bytes; without a rule it is dropped
abbrev pub decision : List Ruling → List ℕ → Action
decision [] b = action.Drop
decision (r ∷ rs) b = if truth r.1 b then r.0 else decision rs b

-- the number of tests of all rules
abbrev pub all_tests : List Ruling → ℕ
all_tests [] = 0
all_tests (r ∷ rs) = tests r.1 + all_tests rs

-- the rule of the code has this action and this pattern
abbrev pub IsRule : Rule → Ruling → Type 0
IsRule rule r = (rule.action ≡ r.0) × (rule.pattern.nodes.items ≡ flat r.1)

abbrev pub AreRules : List Rule → List Ruling → Type 0
AreRules [] [] = Unit {0}
AreRules (rule ∷ rules) (r ∷ rs) = IsRule rule r × AreRules rules rs
AreRules [] (r ∷ rs) = ⊥
AreRules (rule ∷ rules) [] = ⊥
