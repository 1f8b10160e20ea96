use Rattle.std.proofs.Common.{length}
use Rattle.click_rings.proofs.feed_consumers.+has_inlet.Given as goal

abbrev pub decreases-has_inlet : goal.decreases-has_inlet
decreases-has_inlet l = length l.inlets.now
