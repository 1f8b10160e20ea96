use Rattle.click_control.proofs.SessionProgress.{Serves-no_memory}
use Rattle.click_control.proofs.serving.answer_commands.Goals as goal

pub returns-in-Err-clause-goes : goal.returns-in-Err-clause-goes
returns-in-Err-clause-goes g c = λ most first was had left held reads h.
    let so_far = c.loop-command.invariant.so_far most first was had left held reads h in
    Serves-no_memory g.P.Port.asks g.T.Turns.turn g.T.Turns.done c.args.readonly most first _ was _ had left held _ _ _ reads so_far

pub returns-in-Ok-Some-take_up-clause-goes : goal.returns-in-Ok-Some-take_up-clause-goes
returns-in-Ok-Some-take_up-clause-goes g c = λ most first was had left held reads h.
    let so_far = c.loop-command.invariant.so_far most first was had left held reads h in
    let one = rw c.in-Ok-Some.field-0-is at c.in-Ok-Some.ensures.ok in
    let went = rw c.in-Ok-Some-take_up.field-0-is at c.in-Ok-Some-take_up.ensures in
    went most first was had left held c.loop-command.session c.next.new.self reads so_far one

pub returns-in-Err-take_up-clause-goes : goal.returns-in-Err-take_up-clause-goes
returns-in-Err-take_up-clause-goes g c = λ most first was had left held reads h.
    let so_far = c.loop-command.invariant.so_far most first was had left held reads h in
    let one = rw c.in-Ok-Some.field-0-is at c.in-Ok-Some.ensures.ok in
    c.in-Err-take_up.ensures most first was had left held c.loop-command.session c.next.new.self reads so_far one
