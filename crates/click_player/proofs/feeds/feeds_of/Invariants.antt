use Rattle.std.proofs.Common.{◌≡◌}
use Rattle.click_player.proofs.feeds.feeds_of.Given as goal

abbrev pub invariant-loop-word : goal.invariant-loop-word
invariant-loop-word l = l.drivers.items ≡ l.inlets.items
