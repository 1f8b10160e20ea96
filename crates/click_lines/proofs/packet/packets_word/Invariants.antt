use Rattle.std.proofs.Common.{◌≡◌, ◌++◌, map, take}
use Rattle.click_lines.specs.Lines.{packet_word}
use Rattle.click_lines.specs.Spelling.{behind}
use Rattle.click_lines.proofs.packet.packets_word.Given as goal

abbrev pub invariant-loop-packet : goal.invariant-loop-packet
invariant-loop-packet l = l.text.items ≡ l.initial.text.items ++ behind 44 (map packet_word (take l.packet-index l.rest))
