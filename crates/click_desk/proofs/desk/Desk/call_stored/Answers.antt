use Rattle.std.proofs.Common.{inl, ap, sym, is_some, ◌∙◌}
use Rattle.click_desk.specs.History.{installs}
use Rattle.click_desk.specs.declared.desk_setup.DeskSetup.{DeskSetup}
use Rattle.click_desk.specs.declared.pass_knowledge.PassKnowledge.{PassKnowledge}
use Rattle.click_desk.proofs.SeatKnowledge.{may_give, sound, answers, refuses}
use Rattle.click_desk.proofs.desk.Desk.call_stored.Goals as goal

pub enter-result-requires-clause-keeps : goal.enter-result-requires-clause-keeps
enter-result-requires-clause-keeps g c = c.seat.invariant.4 ∙ ap (λ (t : DeskSetup). is_some t.room) (sym c.take-logged_router.ensures.taken.1.0)

pub give-requires-clause-rule : goal.give-requires-clause-rule
give-requires-clause-rule g c =
    let e = c.enter-result.ensures in
    inl (may_give c.seat.inside.number c.seat.inside.calls.items _ _ _ _ c.enter-result.new.calls.items c.args.call c.enter-result.result c.seat.invariant.1 c.seat.invariant.2.made c.take-logged_router.ensures.taken
    (record { options = e.options; legal = e.legal; ok = e.ok; err = e.err; full = e.full }))

pub invariant_of-seat : goal.invariant_of-seat
invariant_of-seat g c =
    let e = c.enter-result.ensures in
    let s = sound _ c.seat.inside.number c.seat.inside.calls.items _ _ _ _ _ c.enter-result.new.calls.items c.args.call c.enter-result.result c.seat.invariant.1 c.seat.invariant.2.made c.take-logged_router.ensures.taken
    (record { options = e.options; legal = e.legal; ok = e.ok; err = e.err; full = e.full }) c.give.ensures.given in
    let options = sym (ap (λ (v : PassKnowledge). v.options) c.give.ensures.given) in
    let seen = sym (ap (λ (v : PassKnowledge). v.seen) c.give.ensures.given) in
    (c.give.ensures.queue.1, s.0, s.1, c.notice.ensures ∙ (λ i. record { board = (options i).origin; list = installs (options i).opening (seen i) }), e.keeps ∙ (c.seat.invariant.4 ∙ ap (λ (t : DeskSetup). is_some t.room) (sym (ap (λ (v : PassKnowledge). v.options) c.give.ensures.given ∙ (e.options ∙ c.take-logged_router.ensures.taken.1.0)))))

pub returns-clause-ok : goal.returns-clause-ok
returns-clause-ok g c =
    let e = c.enter-result.ensures in
    rw (← c.seat.view_is) (answers _ _ c.seat.inside.number c.seat.inside.calls.items _ _ _ _ _ c.enter-result.new.calls.items c.args.call c.enter-result.result c.seat.invariant.1 c.seat.invariant.2.made c.take-logged_router.ensures.taken
    (record { options = e.options; legal = e.legal; ok = e.ok; err = e.err; full = e.full }) c.give.ensures.given)

pub returns-clause-err : goal.returns-clause-err
returns-clause-err g c =
    let e = c.enter-result.ensures in
    rw (← c.seat.view_is) (refuses _ _ c.seat.inside.number c.seat.inside.calls.items _ _ _ _ _ c.enter-result.new.calls.items c.args.call c.enter-result.result c.seat.invariant.1 c.seat.invariant.2.made c.take-logged_router.ensures.taken
    (record { options = e.options; legal = e.legal; ok = e.ok; err = e.err; full = e.full }) c.give.ensures.given)
