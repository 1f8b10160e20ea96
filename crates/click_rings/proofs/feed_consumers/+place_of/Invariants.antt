use Rattle.std.proofs.Common.{length}
use Rattle.click_rings.proofs.feed_consumers.+place_of.Given as goal

abbrev pub decreases-place_of : goal.decreases-place_of
decreases-place_of l = length l.consumers.now
