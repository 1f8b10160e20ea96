use Rattle.std.proofs.Common.{◌≡◌, ◌<◌, length, slice_index_or, ap, ◌∙◌, sym, subst, arith}
use Rattle.std.specs.Prelude.{slice_set}
use lib.ListN.{get_elem?}
use mathlib.Core.Option.{some}
use borrow.Author.Count.{below_more}
use Rattle.crossbeam_queue.specs.Passes.{view}
use Rattle.crossbeam_queue.proofs.Lists.{at_index, set_again}
use Rattle.click_desk.specs.declared.pass_knowledge.PassKnowledge.{PassKnowledge}
use Rattle.click_desk.specs.Views.{holding}
use Rattle.click_desk.specs.SeatStates.{SeatState}
use Rattle.click_desk.specs.Closing.{IsEntered}
use Rattle.click_desk.proofs.SeatedEntries.{index_of}
use Rattle.click_desk.proofs.close.audit_all.Goals as goal

pub loop-i-preserved : goal.loop-i-preserved
loop-i-preserved g c =
    let inv = c.loop-i.invariant in
    let x = c.index-seats-i.result in
    let read : x ≡ slice_index_or c.loop-i.seats c.loop-i.i x = c.index-seats-i.is in
    let below : c.loop-i.i < length c.loop-i.seats = omega arith in
    let at : get_elem? c.loop-i.seats c.loop-i.i ≡ some x = at_index c.loop-i.seats c.loop-i.i x below read in
    let there : (d : SeatState) → slice_index_or c.args.seats.now c.loop-i.i d ≡ x = λ d. index_of c.args.seats.now c.loop-i.i x d (ap (λ l. get_elem? l c.loop-i.i) (sym inv.same) ∙ at) in
    let told : IsEntered (view c.loop-i.agent).seen (slice_index_or c.loop-i.seats c.loop-i.i x) = c.audit-agent.ensures.entered in
    let here : IsEntered (view c.args.agent).seen x = subst (λ h. IsEntered h x) inv.known (subst (λ s. IsEntered (view c.loop-i.agent).seen s) (sym read) told) in
    record {
      same = ap (λ y. slice_set c.loop-i.seats c.loop-i.i y) (c.audit-agent.ensures.same ∙ sym read) ∙ (set_again c.loop-i.seats c.loop-i.i x at ∙ inv.same);
      agent = c.audit-agent.ensures.agent.0;
      known = ap (λ (v : PassKnowledge). v.seen) c.audit-agent.ensures.agent.1 ∙ inv.known;
      holds = c.audit-agent.ensures.agent.1 ∙ sym (ap (λ (v : PassKnowledge). holding v.options v.seen) c.audit-agent.ensures.agent.1);
      entered = below_more (λ k. (d : SeatState) → IsEntered (view c.args.agent).seen (slice_index_or c.args.seats.now k d)) c.loop-i.i inv.entered (λ d. subst (λ (s : SeatState). IsEntered (view c.args.agent).seen s) (sym (there d)) here);
    }

pub returns-clause-entered : goal.returns-clause-entered
returns-clause-entered g c = λ k d below. c.loop-i.invariant.entered k (omega arith) d
