use Rattle.click_text.proofs.OfArguments.ArgumentQuotes.{quoting_more, quoting_bad, quoting_all}
use Rattle.click_text.proofs.argument_bytes.plain_of.Goals as goal

pub returns-then-not-branch : goal.returns-then-not-branch
returns-then-not-branch c =
    let l = c.items in
    let h = rw c.if-not-branch.true at c.in_ok-push_plain.ensures in
    quoting_bad c.args.argument.now l.at l.bytes.items c.first_item-kind.result.0 c.first_item-kind.result.1 c.first_item-kind.ensures.longest h l.invariant

pub items-preserved : goal.items-preserved
items-preserved c =
    let l = c.items in
    let h = rw c.if-not-branch.false at c.in_ok-push_plain.ensures in
    rw h.2 (quoting_more c.args.argument.now l.at l.bytes.items c.first_item-kind.result.0 c.first_item-kind.result.1 h.0 c.first_item-kind.ensures.longest h.1 l.invariant)

pub returns : goal.returns
returns c =
    let l = c.items in
    quoting_all c.args.argument.now l.at l.bytes.items c.items-test.false l.invariant
