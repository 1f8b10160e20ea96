use Rattle.std.proofs.Common.{◌≡◌, ◌≤◌, ◌-◌, ◌++◌, false, take, drop, length}
use Rattle.click_patterns.specs.Grammar.{words, behind}
use Rattle.click_patterns.proofs.parser.word_count.Given as goal

abbrev pub invariant-words : goal.invariant-words
invariant-words l = record {
  within : l.count ≤ length l.tokens;
  words : take l.count l.tokens ++ words l.after_source (drop l.count l.tokens) ≡ words false l.tokens;
  behind : behind l.after_source (drop l.count l.tokens) ≡ behind false l.tokens;
}

abbrev pub decreases-words : goal.decreases-words
decreases-words l = length l.tokens - l.count
