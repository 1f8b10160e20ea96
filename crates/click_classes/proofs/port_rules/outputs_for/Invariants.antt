use Rattle.std.proofs.Common.{◌≡◌, max, drop}
use Rattle.click_classes.specs.Ports.{outputs_for}
use Rattle.click_classes.proofs.port_rules.outputs_for.Given as goal

abbrev pub invariant-loop-entry : goal.invariant-loop-entry
invariant-loop-entry l = max l.most (outputs_for (drop l.entry-index l.entries)) ≡ outputs_for l.entries
