use Rattle.std.proofs.Common.{◌≡◌, ◌∙◌, sym, false, eqb}
use Rattle.std.specs.Prelude.{◌&&◌}
use Rattle.std.proofs.lemmas.Bool.{false≢true}
use Rattle.click_text.specs.Items.{blank_kind}
use Rattle.click_text.proofs.OfArguments.ArgumentCuts.{both_false}
use Rattle.click_text.proofs.OfArguments.WordCuts.{words_end, words_more, words_all}
use Rattle.click_text.proofs.argument_words.words_of.Goals as goal
use Rattle.click_text.proofs.argument_words.words_of.Goals.{then-depth-eq0+then-is_blank+in_ok-end_word, else-depth-eq0+in_ok-extend_from_slice, else-depth-eq0-via-then-depth-eq0+else-is_blank, else-depth-eq0-via-else-depth-eq0}

pub items-preserved : goal.items-preserved
items-preserved c =
    let l = c.items in
    let text = c.args.argument.now in
    let k = c.first_item-kind.result.0 in
    let n = c.first_item-kind.result.1 in
    let r = c.first_item-kind.ensures.longest in
    elim c.if-depth-eq0.branch [
      | then-depth-eq0+then-is_blank+in_ok-end_word w ↦
          rw (w.words-is, w.word-is, w.depth-is, w.in_ok-end_word.ensures, w.new-word-then-is_blank.ensures.items)
          (words_end text l.at l.depth l.words.items l.word.items k n r w.if-depth-eq0.true (sym w.is_blank.ensures ∙ w.if-is_blank.true) l.invariant)
      | else-depth-eq0+in_ok-extend_from_slice w ↦
          let h : (eqb l.depth 0 && blank_kind k) ≡ false = elim w.else-depth-eq0.branch [
            | else-depth-eq0-via-then-depth-eq0+else-is_blank v ↦ both_false l.depth (blank_kind k) (λ e f. false≢true (sym v.if-is_blank.false ∙ v.is_blank.ensures ∙ f))
            | else-depth-eq0-via-else-depth-eq0 v ↦ both_false l.depth (blank_kind k) (λ e f. v.if-depth-eq0.false e)
          ] in
          rw (w.words-is, w.word-is, w.depth-is, w.in_ok-extend_from_slice.ensures.items, w.depth_after-depth.ensures, w.spaced.ensures)
          (words_more text l.at l.depth l.words.items l.word.items k n r h l.invariant)
    ]

pub returns : goal.returns
returns c =
    let l = c.items in
    rw c.in_ok-end_word-2.ensures (words_all c.args.argument.now l.at l.depth l.words.items l.word.items c.items-test.false l.invariant)
