use Rattle.std.proofs.Common.{◌∙◌, arith}
use Rattle.std.proofs.lemmas.List.{get_or_default}
use Rattle.click_engine.specs.RunState.{blank}
use Rattle.click_engine.proofs.OfPlants.LastElement.{acted, store_keeps, with_ends}
use Rattle.click_engine.proofs.run_memory.RunMemory.store.Goals as goal

pub invariant_of-self : goal.invariant_of-self
invariant_of-self c =
    let r = c.args.self.now in
    let is = c.index_mut-element.ensures.value ∙ get_or_default r.elements.items c.args.at _ blank (omega (arith, c.requires, r.elements.ok.0)) in
    record { blank = with_ends r.elements.items c.args.at _ r.blank is _ (store_keeps _ _ _ _ c.store.ensures.stored c.store.ensures.other) }

pub returns-clause-stored : goal.returns-clause-stored
returns-clause-stored c = λ h input.
    let r = c.args.self.now in
    let is = c.index_mut-element.ensures.value ∙ get_or_default r.elements.items c.args.at _ blank (omega (arith, c.requires, r.elements.ok.0)) in
    acted r.elements.items c.args.at _ r.blank is _ r.left r.overruns input _ _ _ (c.store.ensures.stored h _ input)
