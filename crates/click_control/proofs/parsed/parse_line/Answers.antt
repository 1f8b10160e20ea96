use Rattle.std.proofs.Common.{sym}
use Rattle.std.proofs.lemmas.Bool.{eqb-false}
use Rattle.click_control.proofs.LineMeanings.{parse_line-word}
use Rattle.click_control.proofs.parsed.parse_line.Goals as goal

pub returns-then-is_word-4 : goal.returns-then-is_word-4
returns-then-is_word-4 c =
    let word = parse_line-word c.args.line.now c.cut.result.0.now c.cut.result.1.now c.cut.ensures.word c.cut.ensures.rest (eqb-false _ _ (sym c.if-is_empty.ensures)) in
    rw (word, sym c.if-is_word.ensures, sym c.if-is_word-2.ensures, sym c.if-is_word-3.ensures, sym c.if-is_word-4.ensures) c.parse_data-then-is_word-4.ensures

pub returns-then-is_word-5 : goal.returns-then-is_word-5
returns-then-is_word-5 c =
    let word = parse_line-word c.args.line.now c.cut.result.0.now c.cut.result.1.now c.cut.ensures.word c.cut.ensures.rest (eqb-false _ _ (sym c.if-is_empty.ensures)) in
    rw (word, sym c.if-is_word.ensures, sym c.if-is_word-2.ensures, sym c.if-is_word-3.ensures, sym c.if-is_word-4.ensures, sym c.if-is_word-5.ensures) c.parse_check.ensures

pub returns-then-is_word-6 : goal.returns-then-is_word-6
returns-then-is_word-6 c =
    let word = parse_line-word c.args.line.now c.cut.result.0.now c.cut.result.1.now c.cut.ensures.word c.cut.ensures.rest (eqb-false _ _ (sym c.if-is_empty.ensures)) in
    rw (word, sym c.if-is_word.ensures, sym c.if-is_word-2.ensures, sym c.if-is_word-3.ensures, sym c.if-is_word-4.ensures, sym c.if-is_word-5.ensures, sym c.if-is_word-6.ensures)
    c.parse_check-then-is_word-6.ensures
