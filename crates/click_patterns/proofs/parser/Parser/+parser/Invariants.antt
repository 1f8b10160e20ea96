use Rattle.std.proofs.Common.{◌*◌, ◌+◌, ◌<◌, length}
use Rattle.click_patterns.proofs.ChainParts.{Chained, rank}
use Rattle.click_patterns.proofs.parser.Parser.+parser.Given as goal

-- The measure is the number of tokens left. With the same number, the functions call each other in
-- this order only: chain of `or`, part of `or`, chain of `and`, part of `and`, negation.
abbrev pub decreases-chain : goal.decreases-chain
decreases-chain l = 5 * length l.self.now.tokens.now + (2 * rank l.join + 2)

abbrev pub decreases-part : goal.decreases-part
decreases-part l = 5 * length l.self.now.tokens.now + (2 * rank l.join + 1)

abbrev pub decreases-negation : goal.decreases-negation
decreases-negation l = 5 * length l.self.now.tokens.now

abbrev pub invariant-chain-parts : goal.invariant-chain-parts
invariant-chain-parts l = record {
  shorter : length l.self.tokens.now < length l.fn.self.tokens.now;
  parts : Chained l.join l.depth l.fn.self.tokens.now l.fn.self.nodes.items l.self.tokens.now l.self.nodes.items;
}

abbrev pub decreases-chain-parts : goal.decreases-chain-parts
decreases-chain-parts l = length l.self.tokens.now
