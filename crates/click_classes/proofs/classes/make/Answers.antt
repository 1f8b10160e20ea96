use Rattle.std.proofs.Common.{rules, arith}
use Rattle.std.proofs.lemmas.Grind.{common_steps}
use Rattle.click_classes.specs.Made.{IsMade}
use Rattle.click_classes.specs.Steps.{OrNoMemory}
use Rattle.click_classes.proofs.OfStates.OneFirstState.{only_made}
use Rattle.click_classes.proofs.classes.make.Goals as goal

pub returns-clause-only : goal.returns-clause-only
returns-clause-only c =
    λ r m.
    let made : OrNoMemory (IsMade c.args.class c.args.text.now) c.first_state.result = first_of (search rules, grind (arith, common_steps)) in
    only_made c.args.class c.args.text.now c.first_state.result r made m
