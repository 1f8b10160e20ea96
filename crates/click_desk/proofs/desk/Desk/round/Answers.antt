use Rattle.std.proofs.Common.{inl, ap, sym, is_some, ◌∙◌}
use Rattle.click_router.specs.declared.call.Call.TheVariants as call
use Rattle.click_desk.specs.History.{installs}
use Rattle.click_desk.specs.declared.desk_setup.DeskSetup.{DeskSetup}
use Rattle.click_desk.specs.declared.pass_knowledge.PassKnowledge.{PassKnowledge}
use Rattle.click_desk.proofs.SeatKnowledge.{worked, as_round, on_worked, on_refused, may_give, sound, answers, refuses}
use Rattle.click_desk.proofs.desk.Desk.round.Goals as goal

pub enter_round-result-requires : goal.enter_round-result-requires
enter_round-result-requires g c = c.seat.invariant.4 ∙ ap (λ (t : DeskSetup). is_some t.room) (sym c.take-logged_router.ensures.taken.1.0)

pub give-requires-clause-rule : goal.give-requires-clause-rule
give-requires-clause-rule g c =
    let e = c.enter_round-result.ensures in
    let calls = c.seat.inside.calls.items in
    let calls2 = c.enter_round-result.new.calls.items in
    let round = as_round c.take-logged_router.result c.enter_round-result.new.self c.seat.inside.number calls calls2 c.enter_round-result.result (record { options = e.options; legal = e.legal; ok = e.ok; err = e.err; full = e.full }) in
    inl (may_give c.seat.inside.number calls _ _ _ _ calls2 call.Round (worked c.enter_round-result.result) c.seat.invariant.1 c.seat.invariant.2.made c.take-logged_router.ensures.taken round)

pub invariant_of-seat : goal.invariant_of-seat
invariant_of-seat g c =
    let e = c.enter_round-result.ensures in
    let calls = c.seat.inside.calls.items in
    let calls2 = c.enter_round-result.new.calls.items in
    let round = as_round c.take-logged_router.result c.enter_round-result.new.self c.seat.inside.number calls calls2 c.enter_round-result.result (record { options = e.options; legal = e.legal; ok = e.ok; err = e.err; full = e.full }) in
    let s = sound _ c.seat.inside.number calls _ _ _ _ _ calls2 call.Round (worked c.enter_round-result.result) c.seat.invariant.1 c.seat.invariant.2.made c.take-logged_router.ensures.taken round c.give.ensures.given in
    let options = sym (ap (λ (v : PassKnowledge). v.options) c.give.ensures.given) in
    let seen = sym (ap (λ (v : PassKnowledge). v.seen) c.give.ensures.given) in
    (c.give.ensures.queue.1, s.0, s.1, c.notice-notice.ensures ∙ (λ i. record { board = (options i).origin; list = installs (options i).opening (seen i) }), e.keeps ∙ (c.seat.invariant.4 ∙ ap (λ (t : DeskSetup). is_some t.room) (sym (ap (λ (v : PassKnowledge). v.options) c.give.ensures.given ∙ (e.options ∙ c.take-logged_router.ensures.taken.1.0)))))

pub returns-clause-ok : goal.returns-clause-ok
returns-clause-ok g c =
    let e = c.enter_round-result.ensures in
    let calls = c.seat.inside.calls.items in
    let calls2 = c.enter_round-result.new.calls.items in
    let result = c.enter_round-result.result in
    let round = as_round c.take-logged_router.result c.enter_round-result.new.self c.seat.inside.number calls calls2 result (record { options = e.options; legal = e.legal; ok = e.ok; err = e.err; full = e.full }) in
    rw (← c.seat.view_is) (on_worked result _ (answers _ _ c.seat.inside.number calls _ _ _ _ _ calls2 call.Round (worked result) c.seat.invariant.1 c.seat.invariant.2.made c.take-logged_router.ensures.taken round c.give.ensures.given))

pub returns-clause-err : goal.returns-clause-err
returns-clause-err g c =
    let e = c.enter_round-result.ensures in
    let calls = c.seat.inside.calls.items in
    let calls2 = c.enter_round-result.new.calls.items in
    let result = c.enter_round-result.result in
    let round = as_round c.take-logged_router.result c.enter_round-result.new.self c.seat.inside.number calls calls2 result (record { options = e.options; legal = e.legal; ok = e.ok; err = e.err; full = e.full }) in
    rw (← c.seat.view_is) (on_refused result _ (refuses _ _ c.seat.inside.number calls _ _ _ _ _ calls2 call.Round (worked result) c.seat.invariant.1 c.seat.invariant.2.made c.take-logged_router.ensures.taken round c.give.ensures.given))
