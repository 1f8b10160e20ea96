use Rattle.std.proofs.Common.{◌∙◌}
use Rattle.click_scopes.proofs.OfBodies.NestedBodies.{spelled-nested}
use Rattle.click_expand.proofs.OfUniqueness.OneFlatForm.{flat-once}
use Rattle.click_expand.proofs.OfAnswers.FlatForms.{refused-for-memory}
use Rattle.click_expand.proofs.flattening.flatten.Goals as goal

pub flat_of-requires-clause-nested : goal.flat_of-requires-clause-nested
flat_of-requires-clause-nested c = spelled-nested c.args.config.now.text c.args.config.now c.requires

pub returns-in-Ok-clause-only : goal.returns-in-Ok-clause-only
returns-in-Ok-clause-only c = λ flat h. flat-once c.args.config.now (spelled-nested c.args.config.now.text c.args.config.now c.requires) c.in-Ok.flat flat c.in-Ok.ensures.flat h

pub returns-in-Err-clause-only : goal.returns-in-Err-clause-only
returns-in-Err-clause-only c = λ flat h.
    c.fault_of.ensures ∙ refused-for-memory c.args.config.now (spelled-nested c.args.config.now.text c.args.config.now c.requires) flat h c.in-Err.refused c.in-Err.ensures.err
