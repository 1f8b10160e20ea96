use Rattle.std.proofs.Common.{arith}
use Rattle.std.proofs.lemmas.List.{get_or_default, length-set}
use Rattle.click_engine.specs.RunState.{blank}
use Rattle.click_engine.proofs.OfPlants.LastElement.{acted, act_keeps, passes_within, with_ends}
use Rattle.click_engine.proofs.run_state.act_at.Goals as goal

pub returns-clause-acts : goal.returns-clause-acts
returns-clause-acts c = record {
  acts = λ left lost.
      acted c.args.elements.now c.args.at _ c.requires.blank (get_or_default c.args.elements.now c.args.at c.index-elements-at.result blank c.requires.there) _ left lost _ _ _ _ c.act.ensures;
}

pub returns-clause-there : goal.returns-clause-there
returns-clause-there c = λ some.
    let inside = passes_within c.args.elements.now c.args.at _ c.requires.blank (get_or_default c.args.elements.now c.args.at c.index-elements-at.result blank c.requires.there) _ _ _ _ _ c.act.ensures some in
    omega (arith, inside, length-set c.args.elements.now c.args.at)

pub returns-clause-blank : goal.returns-clause-blank
returns-clause-blank c =
    with_ends c.args.elements.now c.args.at _ c.requires.blank (get_or_default c.args.elements.now c.args.at c.index-elements-at.result blank c.requires.there) _ (act_keeps _ _ _ _ _ _ _ c.act.ensures)
