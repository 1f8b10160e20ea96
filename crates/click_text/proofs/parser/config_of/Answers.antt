use Rattle.std.proofs.Common.{inr, ◌∙◌, refl, ap}
use Rattle.click_text.specs.kept.ParserStates.{top, Refused}
use Rattle.click_text.proofs.OfParser.ParserSteps.{refused, at_end}
use Rattle.click_text.proofs.OfParser.RunOutcomes.{accepted_stuck, accepted_text, refused_token}
use Rattle.click_text.proofs.parser.config_of.Goals as goal

pub returns-in-Some-clause-err : goal.returns-in-Some-clause-err
returns-in-Some-clause-err c =
    let q = c.in-Ok.ensures.ended c.in-Some.token _ c.in-Some.ensures in
    inr (rw c.span.ensures (refused_token _ c.args.tokens.now _ c.in-Some.token c.args.ending (rw c.new.ensures at (c.in-Ok.ensures.goes_on top
    ∙ refused 0 _ c.in-Some.token _ _ c.in-Some.ensures (rw (q.1) refl) ∙ ap Refused c.in-Some.ensures))))

pub returns-in-Stuck-clause-err : goal.returns-in-Stuck-clause-err
returns-in-Stuck-clause-err c =
    inr (rw c.in-Stuck.is (accepted_stuck _ c.args.tokens.now _ c.in-Stuck.fault (rw c.new.ensures at (c.in-Ok.ensures.goes_on top ∙ at_end 0 _ _ c.in_default.ensures))))

pub returns-clause-tree : goal.returns-clause-tree
returns-clause-tree c = (accepted_text c.args.tokens.now _ (rw c.new.ensures at (c.in-Ok.ensures.goes_on top ∙ at_end 0 _ _ c.in_default.ensures))).0

pub returns-clause-nests : goal.returns-clause-nests
returns-clause-nests c = (accepted_text c.args.tokens.now _ (rw c.new.ensures at (c.in-Ok.ensures.goes_on top ∙ at_end 0 _ _ c.in_default.ensures))).1
