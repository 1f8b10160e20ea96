use Rattle.std.proofs.Common.{length}
use Rattle.click_patterns.proofs.OneTokenList.{Scanned}
use Rattle.click_patterns.proofs.lexer.scan.Given as goal

abbrev pub invariant-pieces : goal.invariant-pieces
invariant-pieces l = Scanned l.text l.tokens.items l.rest

abbrev pub decreases-pieces : goal.decreases-pieces
decreases-pieces l = length l.rest
