use Rattle.std.proofs.Common.{length}
use Rattle.click_rings.proofs.feed_consumers.+have_distinct_devices.Given as goal

abbrev pub decreases-have_distinct_devices : goal.decreases-have_distinct_devices
decreases-have_distinct_devices l = length l.inlets.now
