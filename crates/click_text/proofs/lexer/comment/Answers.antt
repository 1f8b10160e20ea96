use Rattle.std.proofs.Common.{arith}
use Rattle.std.proofs.lemmas.List.{take_rest}
use Rattle.click_text.proofs.OfPieces.LongestPiece.{longest_line, longest_comment, no_comment, no_slash, past_end, or_not}
use Rattle.click_text.proofs.lexer.comment.Goals as goal

pub returns-then-text-lt2-clause-none : goal.returns-then-text-lt2-clause-none
returns-then-text-lt2-clause-none c =
    let text = c.args.text.now in
    no_slash text c.requires.first (past_end text 47 (omega arith) (omega arith)) (past_end text 42 (omega arith) (omega arith))

pub returns-then-text-eq47-clause-some : goal.returns-then-text-eq47-clause-some
returns-then-text-eq47-clause-some c =
    let text = c.args.text.now in
    let e = c.line_len.ensures in
    longest_line text c.line_len.result (omega arith) c.requires.first c.if-text-eq47.true
    (rw (take_rest text 2) at e.within) (rw (take_rest text 2) at e.all) (rw (take_rest text 2) at e.most)

pub returns-in_err-len-clause-none : goal.returns-in_err-len-clause-none
returns-in_err-len-clause-none c =
    let text = c.args.text.now in
    or_not _ _ (no_comment text (omega arith) c.requires.first c.if-text-eq42.true (rw (take_rest text 2) at c.in_err-len.ensures.never))

pub returns-then-text-eq42-clause-some : goal.returns-then-text-eq42-clause-some
returns-then-text-eq42-clause-some c =
    let text = c.args.text.now in
    let e = c.in_ok-len.ensures in
    longest_comment text c.in_ok-len.len (omega arith) c.requires.first c.if-text-eq42.true
    (rw (take_rest text 2) at e.within) (rw (take_rest text 2) at e.ends)

pub returns-clause-none : goal.returns-clause-none
returns-clause-none c = no_slash c.args.text.now c.requires.first c.if-text-eq47.false c.if-text-eq42.false
