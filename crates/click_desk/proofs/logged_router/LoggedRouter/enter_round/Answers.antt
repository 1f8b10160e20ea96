use Rattle.std.proofs.Common.{◌++◌, ◌∷◌, [], ◌∙◌, ap, subst, sym, refl}
use Rattle.click_router.specs.One.{Answers}
use Rattle.click_router.specs.declared.call.Call.TheVariants as call
use Rattle.click_desk.specs.declared.entry.Entry.{Entry}
use Rattle.click_desk.specs.History.{entry}
use Rattle.click_desk.proofs.EnteredCalls.{kept_quiet}
use Rattle.click_desk.proofs.logged_router.LoggedRouter.enter_round.Goals as goal

pub invariant_of-self-2 : goal.invariant_of-self-2
invariant_of-self-2 g c =
    let router = c.self.inside.router in
    let e : Entry = entry c.args.number call.Round c.round_done.result in
    kept_quiet c.self.inside.router_log.value c.deref_mut-router_log.result.now router c.round-worked-2.new.self e c.add.new.self
    c.deref_mut-router_log.ensures.value c.self.invariant refl refl
    (subst (λ r. Answers router call.Round c.round-worked-2.new.self r) (sym c.round_done.ensures) c.round-worked-2.ensures)
    (c.add.ensures.items ∙ ap (λ l. l ++ e ∷ []) c.reserve_both.ensures.entries.1) (c.add.ensures.keeps ∙ c.reserve_both.ensures.entries.0)

pub returns-clause-legal : goal.returns-clause-legal
returns-clause-legal g c = (invariant_of-self-2 g c).0

pub returns-clause-polled : goal.returns-clause-polled
returns-clause-polled g c = (invariant_of-self-2 g c).1

pub invariant_of-self : goal.invariant_of-self
invariant_of-self g c =
    let router = c.self.inside.router in
    let e : Entry = entry c.args.number call.Round c.round_done-reply.result in
    kept_quiet c.self.inside.router_log.value c.deref_mut-router_log.result.now router c.round-worked.new.self e c.note.new.entries
    c.deref_mut-router_log.ensures.value c.self.invariant refl refl
    (subst (λ r. Answers router call.Round c.round-worked.new.self r) (sym c.round_done-reply.ensures) c.round-worked.ensures)
    c.note.ensures.entries c.note.ensures.keeps.0

pub returns-then-not-keeps-clause-legal : goal.returns-then-not-keeps-clause-legal
returns-then-not-keeps-clause-legal g c = (invariant_of-self g c).0

pub returns-then-not-keeps-clause-polled : goal.returns-then-not-keeps-clause-polled
returns-then-not-keeps-clause-polled g c = (invariant_of-self g c).1
