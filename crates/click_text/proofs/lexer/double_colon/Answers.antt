use Rattle.std.proofs.Common.{arith}
use Rattle.click_text.proofs.OfPieces.LongestPiece.{longest_colons, no_colons, past_end}
use Rattle.click_text.proofs.lexer.double_colon.Goals as goal
use Rattle.click_text.proofs.lexer.double_colon.Goals.{else-text-gt1-via-then-text-gt1+else-text-eq58, else-text-gt1-via-else-text-gt1}

pub returns-then-text-eq58-clause-some : goal.returns-then-text-eq58-clause-some
returns-then-text-eq58-clause-some c = longest_colons c.args.text.now c.if-text-gt1.true c.requires.first c.if-text-eq58.true

pub returns-clause-none : goal.returns-clause-none
returns-clause-none c =
    no_colons c.args.text.now c.requires.first
    (elim c.else-text-gt1.branch [
      | else-text-gt1-via-then-text-gt1+else-text-eq58 w ↦ w.if-text-eq58.false
      | else-text-gt1-via-else-text-gt1 w ↦ past_end c.args.text.now 58 w.if-text-gt1.false (omega arith)
    ])
