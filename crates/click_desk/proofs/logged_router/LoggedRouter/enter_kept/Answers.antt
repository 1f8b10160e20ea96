use Rattle.std.proofs.Common.{◌++◌, ◌∷◌, [], ◌∙◌, ap, subst, sym}
use Rattle.click_router.specs.One.{Answers}
use Rattle.click_desk.specs.declared.entry.Entry.{Entry}
use Rattle.click_desk.specs.History.{entry, installed}
use Rattle.click_desk.proofs.EnteredCalls.{kept_call}
use Rattle.click_desk.proofs.logged_router.LoggedRouter.enter_kept.Goals as goal

pub invariant_of-self-2 : goal.invariant_of-self-2
invariant_of-self-2 g c =
    let log = c.deref_mut-router_log.result.now in
    let router = c.self.inside.router in
    let e : Entry = entry c.args.number c.args.call c.in-Ok-answer_with_copies.entered in
    let kept = sym c.in-Ok-answer_with_copies.ensures.copies.0 in
    kept_call c.self.inside.router_log.value log router c.answer_with_copies.new.router e c.add.new.self c.answer_with_copies.new.published
    c.deref_mut-router_log.ensures.value c.self.invariant c.requires.call
    (subst (λ r. Answers router c.args.call c.answer_with_copies.new.router r) kept c.in-Ok-answer_with_copies.ensures.answer)
    (c.add.ensures.items ∙ ap (λ l. l ++ e ∷ []) c.reserve_both.ensures.entries.1) (c.add.ensures.keeps ∙ c.reserve_both.ensures.entries.0)
    c.answer_with_copies.ensures.board (c.in-Ok-answer_with_copies.ensures.list ∙ ap (λ r. log.published.list ++ installed c.args.call r) kept)

pub returns-clause-legal : goal.returns-clause-legal
returns-clause-legal g c = (invariant_of-self-2 g c).0

pub returns-clause-polled : goal.returns-clause-polled
returns-clause-polled g c = (invariant_of-self-2 g c).1
