use Rattle.std.proofs.Common.{◌≡◌, ◌≤◌, ◌<◌, ◌-◌, length, take, true}
use Rattle.click_text.specs.Pieces.{is_word}
use Rattle.click_text.proofs.lexer.word_len.Given as goal

abbrev pub invariant-loop-len : goal.invariant-loop-len
invariant-loop-len l = record {
  positive : 0 < l.len;
  within : l.len ≤ length l.text;
  word : is_word (take l.len l.text) ≡ true;
}

abbrev pub decreases-loop-len : goal.decreases-loop-len
decreases-loop-len l = length l.text - l.len
