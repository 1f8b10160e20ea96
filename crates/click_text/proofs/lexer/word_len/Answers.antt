use Rattle.std.proofs.Common.{◌+◌, ◌<◌, length, arith, sym, ◌∙◌}
use Rattle.click_text.proofs.OfPieces.WordForms.{word_more, word_joined, word_most}
use Rattle.click_text.proofs.lexer.word_len.Goals as goal
use Rattle.click_text.proofs.lexer.word_len.Goals.{else-text-len-eq47-via-then-text-len-eq47+else-is_word_at, else-text-len-eq47-via-else-text-len-eq47}

pub loop-len-preserved-then-is_word_byte : goal.loop-len-preserved-then-is_word_byte
loop-len-preserved-then-is_word_byte c = record {
  positive = omega arith;
  within = omega arith;
  word = word_more c.args.text.now c.loop-len.len c.loop-len-test.true c.loop-len.invariant.word (sym c.is_word_byte.ensures ∙ c.if-is_word_byte.true);
}

pub loop-len-preserved : goal.loop-len-preserved
loop-len-preserved c =
    let h : c.loop-len.len + 1 < length c.args.text.now = c.is_word_at.ensures.within c.if-is_word_at.true in
    record {
      positive = omega arith;
      within = omega arith;
      word = word_joined c.args.text.now c.loop-len.len h c.loop-len.invariant.word c.if-text-len-eq47.true (sym c.is_word_at.ensures.byte ∙ c.if-is_word_at.true);
    }

pub returns-else-text-len-eq47-clause-most : goal.returns-else-text-len-eq47-clause-most
returns-else-text-len-eq47-clause-most c =
    word_most c.args.text.now c.loop-len.len c.loop-len.invariant.word (sym c.is_word_byte.ensures ∙ c.if-is_word_byte.false)
    (elim c.else-text-len-eq47.branch [
      | else-text-len-eq47-via-then-text-len-eq47+else-is_word_at w ↦ λ e. sym w.is_word_at.ensures.byte ∙ w.if-is_word_at.false
      | else-text-len-eq47-via-else-text-len-eq47 w ↦ λ e. absurd (w.if-text-len-eq47.false e)
    ])
