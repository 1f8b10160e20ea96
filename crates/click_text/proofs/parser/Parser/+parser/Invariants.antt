use Rattle.std.proofs.Common.{◌≡◌, ◌*◌, ◌+◌, ◌<◌, ◌≤◌, [], List, length}
use Rattle.click_text.specs.declared.syntax.Statement.{Statement}
use Rattle.click_text.specs.kept.ParserStates.{Place, start, outcome, between, element_wanted, after}
use Rattle.click_text.proofs.parser.Parser.+parser.Given as goal

-- The measure is the number of tokens left. With the same number, the functions call each other in
-- this order only: statements, statement, chain, element, head or class, body.
abbrev pub decreases-statements : goal.decreases-statements
decreases-statements l = 7 * length l.self.now.tokens.items.now + 6

abbrev pub decreases-statement : goal.decreases-statement
decreases-statement l = 7 * length l.self.now.tokens.items.now + 5

abbrev pub decreases-chain : goal.decreases-chain
decreases-chain l = 7 * length l.self.now.tokens.items.now + 4

abbrev pub decreases-element : goal.decreases-element
decreases-element l = 7 * length l.self.now.tokens.items.now + 3

abbrev pub decreases-head : goal.decreases-head
decreases-head l = 7 * length l.self.now.tokens.items.now + 2

abbrev pub decreases-declaration : goal.decreases-declaration
decreases-declaration l = 7 * length l.self.now.tokens.items.now + 3

abbrev pub decreases-definition : goal.decreases-definition
decreases-definition l = 7 * length l.self.now.tokens.items.now + 2

abbrev pub decreases-class : goal.decreases-class
decreases-class l = 7 * length l.self.now.tokens.items.now + 2

abbrev pub decreases-body : goal.decreases-body
decreases-body l = 7 * length l.self.now.tokens.items.now + 1

-- the run from the first element goes on like one after the links so far
abbrev pub invariant-chain-links : goal.invariant-chain-links
invariant-chain-links l = record {
  same : (p : Place) (ss : List Statement) → outcome l.depth (element_wanted l.fn.self.bodies (start p ss)) l.fn.self.tokens.items.now
      ≡ outcome l.depth (after l.self.bodies p ss l.first l.links) l.self.tokens.items.now;
  fewer : length l.self.tokens.items.now < length l.fn.self.tokens.items.now;
}

abbrev pub decreases-chain-links : goal.decreases-chain-links
decreases-chain-links l = length l.self.tokens.items.now

-- the run from the first statement goes on like one after the statements so far
abbrev pub invariant-statements-rows : goal.invariant-statements-rows
invariant-statements-rows l = record {
  same : (p : Place) → outcome l.depth (between l.fn.self.bodies p []) l.fn.self.tokens.items.now
      ≡ outcome l.depth (between l.self.bodies p l.statements) l.self.tokens.items.now;
  fewer : length l.self.tokens.items.now ≤ length l.fn.self.tokens.items.now;
}

abbrev pub decreases-statements-rows : goal.decreases-statements-rows
decreases-statements-rows l = length l.self.tokens.items.now
