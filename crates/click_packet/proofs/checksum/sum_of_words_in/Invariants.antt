use Rattle.std.proofs.Common.{◌≡◌, ◌+◌, ◌*◌, ◌≤◌, drop}
use Rattle.click_packet.specs.Checksum.{sum_of_words}
use Rattle.click_packet.proofs.checksum.sum_of_words_in.Given as goal

-- the words that were read and those that remain have the sum of all
abbrev pub invariant-loop-at : goal.invariant-loop-at
invariant-loop-at l = record {
  made : l.sum + sum_of_words (drop (2 * l.at) l.bytes) ≡ sum_of_words l.bytes;
  small : l.sum ≤ 65535 * l.at;
}
