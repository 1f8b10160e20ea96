use Rattle.std.proofs.Common.{arith}
use Rattle.std.proofs.lemmas.List.{take_rest}
use Rattle.click_text.proofs.OfPieces.LongestPiece.{or_not}
use Rattle.click_text.proofs.OfItems.ItemForms.{comment_item, no_comment_item, double_item, single_item, angle_item}
use Rattle.click_text.proofs.items.long_item.Goals as goal

pub returns-in_err-len-in-47-clause-none : goal.returns-in_err-len-in-47-clause-none
returns-in_err-len-in-47-clause-none c = or_not _ _ (no_comment_item c.args.text.now c.in-47.is c.in_err-len-in-47.ensures.none)

pub returns-in_ok-len-in-47-clause-some : goal.returns-in_ok-len-in-47-clause-some
returns-in_ok-len-in-47-clause-some c = comment_item c.args.text.now _ c.in_ok-len-in-47.len c.in-47.is c.in_ok-len-in-47.ensures.progress c.in_ok-len-in-47.ensures.some

pub returns-in_ok-len-in-34-clause-some : goal.returns-in_ok-len-in-34-clause-some
returns-in_ok-len-in-34-clause-some c =
    let text = c.args.text.now in
    let e = c.in_ok-len-in-34.ensures in
    double_item text c.in_ok-len-in-34.len c.requires c.in-34.is (rw (take_rest text 1) at e.within) (rw (take_rest text 1) at e.ends)

pub returns-in_ok-len-in-39-clause-some : goal.returns-in_ok-len-in-39-clause-some
returns-in_ok-len-in-39-clause-some c =
    let text = c.args.text.now in
    let e = c.in_ok-len-in-39.ensures in
    single_item text c.in_ok-len-in-39.len c.requires c.in-39.is (rw (take_rest text 1) at e.within) (rw (take_rest text 1) at e.ends)

pub returns-in_ok-len-in-92-clause-some : goal.returns-in_ok-len-in-92-clause-some
returns-in_ok-len-in-92-clause-some c =
    let text = c.args.text.now in
    let e = c.in_ok-len-in-92.ensures in
    angle_item text c.in_ok-len-in-92.len (omega arith) c.in-92.is c.if-text-eq60.true (rw (take_rest text 2) at e.within) (rw (take_rest text 2) at e.ends)
