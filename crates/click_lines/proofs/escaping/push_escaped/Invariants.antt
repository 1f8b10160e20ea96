use Rattle.std.proofs.Common.{◌≡◌, ◌++◌, take}
use Rattle.click_lines.specs.Spelling.{escaped}
use Rattle.click_lines.proofs.escaping.push_escaped.Given as goal

abbrev pub invariant-loop-byte : goal.invariant-loop-byte
invariant-loop-byte l = l.line.items ≡ l.initial.line.items ++ escaped l.least (take l.byte-index l.bytes)
