use Rattle.std.proofs.Common.{◌≡◌, take, true}
use Rattle.std.specs.List.{list_all}
use Rattle.click_text.specs.Pieces.{name_byte}
use Rattle.click_text.proofs.lexer.name_len.Given as goal

abbrev pub invariant-loop-i : goal.invariant-loop-i
invariant-loop-i l = list_all name_byte (take l.i l.text) ≡ true
