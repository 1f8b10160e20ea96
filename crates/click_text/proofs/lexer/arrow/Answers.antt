use Rattle.std.proofs.Common.{arith}
use Rattle.click_text.proofs.OfPieces.LongestPiece.{longest_arrow, no_arrow, past_end}
use Rattle.click_text.proofs.lexer.arrow.Goals as goal
use Rattle.click_text.proofs.lexer.arrow.Goals.{else-text-gt1-via-then-text-gt1+else-text-eq62, else-text-gt1-via-else-text-gt1}

pub returns-then-text-eq62-clause-some : goal.returns-then-text-eq62-clause-some
returns-then-text-eq62-clause-some c = longest_arrow c.args.text.now c.if-text-gt1.true c.requires.first c.if-text-eq62.true

pub returns-clause-none : goal.returns-clause-none
returns-clause-none c =
    no_arrow c.args.text.now c.requires.first
    (elim c.else-text-gt1.branch [
      | else-text-gt1-via-then-text-gt1+else-text-eq62 w ↦ w.if-text-eq62.false
      | else-text-gt1-via-else-text-gt1 w ↦ past_end c.args.text.now 62 w.if-text-gt1.false (omega arith)
    ])
