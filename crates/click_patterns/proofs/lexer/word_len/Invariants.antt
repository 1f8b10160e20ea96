use Rattle.std.proofs.Common.{◌≡◌, ◌++◌, take, drop}
use Rattle.click_patterns.specs.Tokens.{word}
use Rattle.click_patterns.proofs.lexer.word_len.Given as goal

abbrev pub invariant-loop-i : goal.invariant-loop-i
invariant-loop-i l = take l.i l.text ++ word (drop l.i l.text) ≡ word l.text
