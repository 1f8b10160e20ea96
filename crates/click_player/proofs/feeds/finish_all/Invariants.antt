use Rattle.std.proofs.Common.{◌≡◌, ◌++◌, vec_len}
use Rattle.click_player.proofs.feeds.finish_all.Given as goal

abbrev pub invariant-loop-drivers : goal.invariant-loop-drivers
invariant-loop-drivers l = l.all.items ++ l.drivers.items ≡ l.fn.drivers.items

abbrev pub decreases-loop-drivers : goal.decreases-loop-drivers
decreases-loop-drivers l = vec_len l.drivers
