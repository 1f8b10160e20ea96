use Rattle.std.proofs.Common.{arith}
use Rattle.std.proofs.lemmas.List.{take_rest}
use Rattle.click_text.proofs.OfPieces.LongestPiece.{longest_formal, no_formal}
use Rattle.click_text.proofs.lexer.formal.Goals as goal

pub returns-then-len-eq0-clause-none : goal.returns-then-len-eq0-clause-none
returns-then-len-eq0-clause-none c =
    let text = c.args.text.now in
    let most = rw (take_rest text 1, c.if-len-eq0.true) at c.name_len-len.ensures.most in
    no_formal text c.requires.some c.requires.first most

pub returns-clause-some : goal.returns-clause-some
returns-clause-some c =
    let text = c.args.text.now in
    let e = c.name_len-len.ensures in
    let n = c.if-len-eq0.false in
    longest_formal text c.name_len-len.result c.requires.some c.requires.first (omega arith)
    (rw (take_rest text 1) at e.within) (rw (take_rest text 1) at e.all) (rw (take_rest text 1) at e.most)
