use Rattle.std.proofs.Common.{◌≡◌, ◌+◌, drop}
use Rattle.std.specs.List.{prefix_len}
use Rattle.click_text.specs.Pieces.{name_byte}
use Rattle.click_expand.proofs.texts.parameters.name_len.Given as goal

abbrev pub invariant-loop-i : goal.invariant-loop-i
invariant-loop-i l = prefix_len name_byte l.text ≡ l.i + prefix_len name_byte (drop l.i l.text)
