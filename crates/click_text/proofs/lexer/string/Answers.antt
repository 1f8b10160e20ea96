use Rattle.std.proofs.lemmas.List.{take_rest}
use Rattle.click_text.proofs.OfPieces.LongestPiece.{longest_string, no_string, or_not}
use Rattle.click_text.proofs.lexer.string.Goals as goal

pub returns-in_err-len-clause-none : goal.returns-in_err-len-clause-none
returns-in_err-len-clause-none c =
    let text = c.args.text.now in
    or_not _ _ (no_string text c.requires.some c.requires.first (rw (take_rest text 1) at c.in_err-len.ensures.unclosed))

pub returns-clause-some : goal.returns-clause-some
returns-clause-some c =
    let text = c.args.text.now in
    let e = c.in_ok-len.ensures in
    longest_string text c.in_ok-len.len c.requires.some c.requires.first (rw (take_rest text 1) at e.within) (rw (take_rest text 1) at e.closed)
