use Rattle.std.proofs.Common.{◌∙◌, sym, arith, drop, append_assoc, [], length-drop}
use Rattle.std.proofs.lemmas.List.{append-nil, drop-drop, drop_all, take_rest}
use Rattle.click_text.specs.declared.syntax.Ending.TheVariants as ending
use Rattle.click_text.specs.Pieces.{ends, passes, takes, stuck}
use Rattle.click_text.proofs.OfPieces.OnePieceList.{none_tail, longest_tail}
use Rattle.click_text.proofs.lexer.scan.Goals as goal

pub returns-in_default : goal.returns-in_default
returns-in_default c =
    let text = c.args.text.now in
    let at = c.pieces.at in
    let e = rw (take_rest text at) at c.piece_fault.ensures in
    let r = stuck at (drop at text) (omega (arith, length-drop at text)) (none_tail text at c.in_default.ensures.none) in
    rw append-nil at (c.pieces.invariant.reads [] c.piece_fault.result (rw e r))

pub pieces-preserved-in_ok-push : goal.pieces-preserved-in_ok-push
pieces-preserved-in_ok-push c =
    let text = c.args.text.now in
    let at = c.pieces.at in
    let k = c.in-Some.piece in
    let n = c.in-Some.len in
    let l = longest_tail text at k n c.in-Some.ensures.some in
    let t = rw (take_rest text at) at c.token.ensures in
    record {
      within = let w = l.within in omega (arith, length-drop at text);
      reads = λ ts e r. rw (c.in_ok-push.ensures.items, append_assoc) (c.pieces.invariant.reads _ e
          (takes at (drop at text) ts e k n c.in-Some-token.token l (sym t ∙ c.in-Some-token.is)
          (rw (drop-drop n at text) r)));
    }

pub pieces-preserved : goal.pieces-preserved
pieces-preserved c =
    let text = c.args.text.now in
    let at = c.pieces.at in
    let k = c.in-Some.piece in
    let n = c.in-Some.len in
    let l = longest_tail text at k n c.in-Some.ensures.some in
    let t = rw (take_rest text at) at c.token.ensures in
    record {
      within = let w = l.within in omega (arith, length-drop at text);
      reads = λ ts e r. c.pieces.invariant.reads ts e
          (passes at (drop at text) ts e k n l (sym t ∙ c.in_default-token.is)
          (rw (drop-drop n at text) r));
    }

pub returns : goal.returns
returns c = rw append-nil at (c.pieces.invariant.reads [] ending.Whole (rw (drop_all c.pieces.at c.args.text.now c.pieces-test.false) (ends c.pieces.at)))
