use Rattle.std.proofs.Common.{take}
use Rattle.click_expand.specs.kept.Wiring.{Gains, HasAll}
use Rattle.click_expand.specs.kept.Passthrough.{IsOutputOf}
use Rattle.click_expand.proofs.connections.passthrough.enqueue_outputs.Given as goal

abbrev pub invariant-loop-output : goal.invariant-loop-output
invariant-loop-output l =
    Gains (IsOutputOf l.element (take l.output-index l.outputs)) l.fn.seen.keys l.seen.keys × HasAll (IsOutputOf l.element (take l.output-index l.outputs)) l.seen.keys
