use Rattle.std.proofs.Common.{◌+◌, ◌≡◌, ◌<◌, length, reverse}
use Rattle.click_filter.specs.kept.Steps.{value}
use Rattle.click_filter.proofs.program.Program.decide.Given as goal

abbrev pub invariant-steps : goal.invariant-steps
invariant-steps l = record {
  there : l.at < length l.self.steps.items + 257;
  same : value (reverse l.self.steps.items) l.at l.packet ≡ value (reverse l.self.steps.items) l.self.entry l.packet;
}

abbrev pub decreases-steps : goal.decreases-steps
decreases-steps l = l.at
