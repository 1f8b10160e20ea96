use Rattle.click_desk.specs.declared.entry.Entry.{Entry}
use Rattle.click_desk.specs.History.{entry}
use Rattle.click_desk.proofs.EnteredCalls.{kept_call}
use Rattle.click_desk.proofs.logged_router.LoggedRouter.enter_unkept.Goals as goal

pub invariant_of-self-2 : goal.invariant_of-self-2
invariant_of-self-2 g c =
    let e : Entry = entry c.args.number c.args.call c.in-Ok-answer.reply in
    kept_call c.self.inside.router_log.value c.deref_mut-router_log.result.now c.self.inside.router c.answer.new.router e c.note.new.entries c.answer.new.published
    c.deref_mut-router_log.ensures.value c.self.invariant c.requires.call c.in-Ok-answer.ensures.answer
    c.note.ensures.entries c.note.ensures.keeps.0 c.answer.ensures.board c.in-Ok-answer.ensures.list

pub returns-clause-legal : goal.returns-clause-legal
returns-clause-legal g c = (invariant_of-self-2 g c).0

pub returns-clause-polled : goal.returns-clause-polled
returns-clause-polled g c = (invariant_of-self-2 g c).1
