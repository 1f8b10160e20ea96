-- What programs do.
use Rattle.std.specs.Prelude.{ℕ, List, length, reverse}
use Rattle.click_filter.specs.declared.rule.Action.{Action}
use Rattle.click_filter.specs.declared.program.Program.{Program}
use Rattle.click_filter.specs.kept.Steps.{value, action_of}

-- what the program does to a packet with these bytes
abbrev pub decides : Program → List ℕ → Action
decides p b = action_of (value (reverse p.steps.items) p.entry b)

-- the number of its steps
abbrev pub size : Program → ℕ
size p = length p.steps.items
