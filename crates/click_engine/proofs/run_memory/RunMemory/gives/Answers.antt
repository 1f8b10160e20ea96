use Rattle.std.proofs.Common.{◌∙◌, arith}
use Rattle.std.proofs.lemmas.List.{get_or_default}
use Rattle.click_engine.specs.RunState.{blank}
use Rattle.click_engine.proofs.OfPlants.LastElement.{gave, gives_keeps, with_ends}
use Rattle.click_engine.proofs.run_memory.RunMemory.gives.Goals as goal

pub invariant_of-self : goal.invariant_of-self
invariant_of-self c =
    let r = c.args.self.now in
    let is = c.index_mut-element.ensures.value ∙ get_or_default r.elements.items c.args.at _ blank (omega (arith, c.requires, r.elements.ok.0)) in
    record { blank = with_ends r.elements.items c.args.at _ r.blank is _ (gives_keeps _ _ _ _ _ _ _ _ _ c.gives.ensures) }

pub returns-clause-gives : goal.returns-clause-gives
returns-clause-gives c =
    let r = c.args.self.now in
    let is = c.index_mut-element.ensures.value ∙ get_or_default r.elements.items c.args.at _ blank (omega (arith, c.requires, r.elements.ok.0)) in
    gave r.elements.items c.args.at _ r.blank is _ r.left r.overruns _ _ _ _ _ c.gives.ensures
