use Rattle.std.proofs.Common.{◌≡◌, ◌+◌, drop}
use Rattle.std.specs.List.{prefix_len}
use Rattle.click_control.proofs.Words.{no_blank}
use Rattle.click_control.proofs.parsed.word_len.Given as goal

abbrev pub invariant-loop-i : goal.invariant-loop-i
invariant-loop-i l = l.i + prefix_len no_blank (drop l.i l.bytes) ≡ prefix_len no_blank l.bytes
