use Rattle.std.proofs.Common.{◌≡◌, List, slice_index_or, ap, ◌∙◌, sym, subst}
use Rattle.std.specs.Prelude.{slice_set}
use Rattle.std.specs.List.{All}
use lib.ListN.{get_elem?}
use mathlib.Core.Option.{some}
use Rattle.crossbeam_queue.specs.Passes.{view}
use Rattle.crossbeam_queue.proofs.Lists.{at_index, set_again}
use Rattle.click_desk.specs.declared.entry.Entry.{Entry}
use Rattle.click_desk.specs.declared.pass_knowledge.PassKnowledge.{PassKnowledge}
use Rattle.click_desk.specs.SeatStates.{SeatState}
use Rattle.click_desk.specs.DeskSetups.{terms_of}
use Rattle.click_desk.specs.declared.desk_setup.DeskSetup.{DeskSetup}
use Rattle.click_desk.specs.Closing.{IsEntered}
use Rattle.click_desk.proofs.SeatedEntries.{index_of}
use Rattle.click_desk.proofs.close.take_last.Goals as goal

pub returns-clause-entered : goal.returns-clause-entered
returns-clause-entered g c =
    let seats = c.args.seats.now in
    let x = c.index-seats-0.result in
    let read : x ≡ slice_index_or seats 0 x = c.index-seats-0.is in
    let at : get_elem? seats 0 ≡ some x = at_index seats 0 x c.requires.some read in
    let same : slice_set seats 0 c.agent-agent.new.seat ≡ seats = ap (λ y. slice_set seats 0 y) (c.agent-agent.ensures.same ∙ sym read) ∙ set_again seats 0 x at in
    let seen : (view c.take-logged_router.new.pass).seen ≡ c.take-logged_router.result.entries = ap (λ (v : PassKnowledge). v.seen) c.take-logged_router.ensures.taken.0 in
    let all : All (IsEntered (view c.take-logged_router.new.pass).seen) (slice_set seats 0 c.agent-agent.new.seat) = c.audit_all.ensures.entered in
    subst (λ (y : List Entry × List SeatState). All (IsEntered y.0) y.1) (λ i. (seen i, same i)) all

pub returns-clause-options : goal.returns-clause-options
returns-clause-options g c = λ s.
    let seats = c.args.seats.now in
    let x = c.index-seats-0.result in
    let at : get_elem? seats 0 ≡ some x = at_index seats 0 x c.requires.some c.index-seats-0.is in
    let taken : c.take-logged_router.result.options ≡ (view c.agent-agent.result).options = c.take-logged_router.ensures.taken.1.0 in
    ap (λ (y : SeatState). y.desk.options) (index_of seats 0 x s at ∙ c.index-seats-0.is) ∙ sym (ap terms_of (taken ∙ ap (λ (v : PassKnowledge). v.options) c.agent-agent.ensures.agent.1))

pub returns-clause-feeds : goal.returns-clause-feeds
returns-clause-feeds g c = λ s.
    let seats = c.args.seats.now in
    let x = c.index-seats-0.result in
    let at : get_elem? seats 0 ≡ some x = at_index seats 0 x c.requires.some c.index-seats-0.is in
    let taken : c.take-logged_router.result.options ≡ (view c.agent-agent.result).options = c.take-logged_router.ensures.taken.1.0 in
    ap (λ (y : SeatState). y.feeds) (index_of seats 0 x s at ∙ c.index-seats-0.is) ∙ sym (ap (λ (y : DeskSetup). y.feeds) (taken ∙ ap (λ (v : PassKnowledge). v.options) c.agent-agent.ensures.agent.1))
