-- Programs as lists of steps, with the newest step first. A target below 257 is an action, and each
-- other target is the step with that number, counted from 257.
use Rattle.std.specs.Prelude.{ℕ, ◌+◌, List, [], ◌∷◌, length, Bool, true, ◌&&◌, nat_eq, nat_lt, if◌then◌else◌}
use Rattle.click_filter.specs.declared.rule.Action.{Action}
use Rattle.click_filter.specs.declared.rule.Action.TheVariants as action
use Rattle.click_filter.specs.declared.step.Step.{Step}
use Rattle.click_filter.specs.Tests.{holds}

-- the target to which a step leads
abbrev pub next : Step → List ℕ → ℕ
next s b = if holds s.test b then s.yes else s.no

-- the action to which a target leads
abbrev pub value : List Step → ℕ → List ℕ → ℕ
value [] at b = at
value (s ∷ older) at b = if nat_eq at (length older + 257) then value older (next s b) b else value older at b

-- each step leads to an action or to an older step
abbrev pub forward : List Step → Bool
forward [] = true
forward (s ∷ older) = nat_lt s.yes (length older + 257) && nat_lt s.no (length older + 257) && forward older

abbrev pub action_of : ℕ → Action
action_of n = if nat_lt n 256 then action.Output n else action.Drop
