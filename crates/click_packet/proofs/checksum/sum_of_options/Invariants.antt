use Rattle.std.proofs.Common.{◌≡◌, ◌+◌, ◌*◌, ◌≤◌, drop}
use Rattle.click_packet.specs.kept.Quads.{quads}
use Rattle.click_packet.proofs.checksum.sum_of_options.Given as goal

-- the sum so far and the sum of the words from here on are the whole sum
abbrev pub invariant-loop-at : goal.invariant-loop-at
invariant-loop-at l = record {
  made : l.sum + quads (drop (4 * l.at) l.header) ≡ quads (drop 20 l.header);
  small : l.sum ≤ 4294967295 * l.at;
}
