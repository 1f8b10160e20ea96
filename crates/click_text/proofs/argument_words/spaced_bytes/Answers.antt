use Rattle.click_text.proofs.OfArguments.WordCuts.{spacing_more, spacing_all}
use Rattle.click_text.proofs.argument_words.spaced_bytes.Goals as goal

pub items-preserved : goal.items-preserved
items-preserved c =
    let l = c.items in
    rw (c.in_ok-extend_from_slice.ensures.items, c.spaced.ensures)
    (spacing_more c.args.argument.now l.at l.bytes.items c.first_item-kind.result.0 c.first_item-kind.result.1 c.first_item-kind.ensures.longest l.invariant)

pub returns : goal.returns
returns c =
    let l = c.items in
    spacing_all c.args.argument.now l.at l.bytes.items c.items-test.false l.invariant
