use Rattle.std.proofs.Common.{arith}
use Rattle.click_classes.proofs.OfRoutes.RouteTables.{blank, outputs_more}
use Rattle.click_classes.proofs.port_rules.outputs_for.Goals as goal
use Rattle.click_classes.proofs.port_rules.outputs_for.Goals.{then-most-outputs, else-most-outputs}

pub loop-entry-preserved : goal.loop-entry-preserved
loop-entry-preserved c = outputs_more c.args.entries.now blank c.loop-entry.entry-index c.loop-entry.most _ _ c.loop-entry-test.true (elim c.if-most-outputs.branch [ then-most-outputs w ↦ omega (arith, w.most-is, c.from-outputs.ensures) | else-most-outputs w ↦ omega (arith, w.most-is, c.from-outputs.ensures) ]) c.loop-entry.invariant
