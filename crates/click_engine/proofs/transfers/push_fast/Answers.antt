use Rattle.std.proofs.Common.{◌∙◌, ap, sym, length}
use Rattle.std.proofs.lemmas.List.{with_items_is}
use Rattle.click_engine.proofs.transfers.push_fast.Goals as goal

pub returns-then-push_on-clause-along : goal.returns-then-push_on-clause-along
returns-then-push_on-clause-along c = λ at output joined.
    let given = c.as_mut_slice-elements.ensures.value in
    let kept = with_items_is c.args.run_memory.now.elements c.push_on.new.elements (c.push_on.auto.elements ∙ ap length given ∙ sym c.args.run_memory.now.elements.ok.0) in
    rw kept (rw (c.if-push_on.true, given) at (c.push_on.ensures.along at output c.args.run_memory.now.overruns joined))

pub returns-clause-along : goal.returns-clause-along
returns-clause-along c = λ at output joined.
    let given = c.as_mut_slice-elements.ensures.value in
    let kept = with_items_is c.args.run_memory.now.elements c.push_on.new.elements (c.push_on.auto.elements ∙ ap length given ∙ sym c.args.run_memory.now.elements.ok.0) in
    rw (c.overrun.ensures.overrun, kept) (rw (c.if-push_on.false, given) at (c.push_on.ensures.along at output c.args.run_memory.now.overruns joined))
