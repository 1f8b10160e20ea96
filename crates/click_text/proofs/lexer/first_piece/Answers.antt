use Rattle.std.proofs.Common.{sym, ◌∙◌, arith}
use Rattle.click_text.proofs.OfPieces.LongestPiece.{longest_blank, longest_word, longest_mark, no_beginning}
use Rattle.click_text.proofs.lexer.first_piece.Goals as goal

pub returns-then-is_white-clause-some : goal.returns-then-is_white-clause-some
returns-then-is_white-clause-some c = longest_blank c.args.text.now c.requires (sym c.is_white.ensures ∙ c.if-is_white.true)

pub returns-then-is_word_byte-clause-some : goal.returns-then-is_word_byte-clause-some
returns-then-is_word_byte-clause-some c =
    let e = c.word_len-len.ensures in
    longest_word c.args.text.now c.word_kind.result c.word_len-len.result
    (sym c.is_white.ensures ∙ c.if-is_white.false) (sym c.is_word_byte.ensures ∙ c.if-is_word_byte.true) e.within c.word_kind.ensures e.most

pub returns-in-Some-clause-some : goal.returns-in-Some-clause-some
returns-in-Some-clause-some c =
    longest_mark c.args.text.now c.in-Some.piece c.requires
    (sym c.is_white.ensures ∙ c.if-is_white.false) (sym c.is_word_byte.ensures ∙ c.if-is_word_byte.false) (sym c.mark.ensures ∙ c.in-Some.is)

pub returns-in_default-byte-clause-none : goal.returns-in_default-byte-clause-none
returns-in_default-byte-clause-none c =
    no_beginning c.args.text.now
    (sym c.is_white.ensures ∙ c.if-is_white.false) (sym c.is_word_byte.ensures ∙ c.if-is_word_byte.false) (sym c.mark.ensures ∙ c.in_default.is)
    (omega arith) (omega arith) (omega arith) (omega arith) (omega arith)
