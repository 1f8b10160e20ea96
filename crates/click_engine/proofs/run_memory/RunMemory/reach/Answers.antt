use Rattle.std.proofs.Common.{◌∙◌, ap, refl, arith}
use Rattle.std.proofs.lemmas.List.{get_or_default}
use Rattle.click_classes.specs.Acts.{stored}
use Rattle.click_engine.specs.RunState.{blank}
use Rattle.click_engine.specs.declared.run_state.Element.{Element}
use Rattle.click_engine.proofs.OfPlants.LastElement.{held_there, none_taken, nothing_stored, seen, with_ends}
use Rattle.click_engine.proofs.run_memory.RunMemory.reach.Goals as goal

pub invariant_of-self : goal.invariant_of-self
invariant_of-self c =
    let r = c.args.self.now in
    let is = c.index_mut-element.ensures.value ∙ get_or_default r.elements.items c.args.far.element _ blank (omega (arith, c.requires, r.elements.ok.0)) in
    record { blank = with_ends r.elements.items c.args.far.element _ r.blank is _ (none_taken _ _ _ _ _ _ _ (nothing_stored _) c.take_stored.ensures) }

pub returns-then-take_stored-clause-reaches : goal.returns-then-take_stored-clause-reaches
returns-then-take_stored-clause-reaches c =
    let r = c.args.self.now in
    let is = c.index_mut-element.ensures.value ∙ get_or_default r.elements.items c.args.far.element _ blank (omega (arith, c.requires, r.elements.ok.0)) in
    record {
      reached = held_there r.elements.items c.args.far.element _ r.blank is _ r.left r.overruns _ _ _ _ _ _ _ _ refl refl (ap (λ (e : Element). stored e.state) (seen r.elements.items c.args.far.element _ r.blank is)) c.if-take_stored.true c.take_stored.ensures;
    }
