use Rattle.std.proofs.Common.{◌∙◌, ap, sym, arith, nat_lt, None, if◌then◌else◌}
use Rattle.std.proofs.lemmas.List.{get_or_default}
use Rattle.click_classes.specs.Acts.{burst_of, emission}
use Rattle.click_engine.specs.RunState.{blank}
use Rattle.click_engine.specs.declared.run_state.Element.{Element}
use Rattle.click_engine.proofs.OfPlants.LastElement.{none_taken, nothing_first, seen, taken_from, with_ends}
use Rattle.click_engine.proofs.run_memory.RunMemory.emit_first.Goals as goal

pub invariant_of-self : goal.invariant_of-self
invariant_of-self c =
    let r = c.args.self.now in
    let is = c.index_mut-element.ensures.value ∙ get_or_default r.elements.items c.args.at _ blank (omega (arith, c.requires, r.elements.ok.0)) in
    record { blank = with_ends r.elements.items c.args.at _ r.blank is _ (none_taken _ _ _ _ _ _ _ (nothing_first _) c.emit_first.ensures) }

pub returns-clause-emitted : goal.returns-clause-emitted
returns-clause-emitted c =
    let r = c.args.self.now in
    let is = c.index_mut-element.ensures.value ∙ get_or_default r.elements.items c.args.at _ blank (omega (arith, c.requires, r.elements.ok.0)) in
    let same = seen r.elements.items c.args.at _ r.blank is in
    taken_from r.elements.items c.args.at _ r.blank is _ r.left r.overruns _ _ _ _ _ _ _ (λ most. most ∙ sym (ap (λ (e : Element). burst_of e.state) same)) (ap (λ (e : Element). if nat_lt 0 (burst_of e.state) then emission e.state else None) same) c.emit_first.ensures
