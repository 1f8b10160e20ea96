use Rattle.std.proofs.Common.{ap, ◌∙◌, subst}
use Rattle.crossbeam_queue.specs.Passes.{view}
use Rattle.click_desk.specs.Views.{Takes}
use Rattle.click_desk.specs.declared.pass_knowledge.PassKnowledge.{PassKnowledge}
use Rattle.click_desk.proofs.QueueMoves.{takes}
use Rattle.click_desk.proofs.desk.wait_for.Goals as goal

pub try_pop_as-requires-clause-rule : goal.try_pop_as-requires-clause-rule
try_pop_as-requires-clause-rule g c = takes _ _ (ap (λ (v : PassKnowledge). v.opened) c.loop.invariant.1 ∙ c.requires.opened)

pub returns-in-Some-try_pop_as-clause-taken : goal.returns-in-Some-try_pop_as-clause-taken
returns-in-Some-try_pop_as-clause-taken g c =
    subst (λ (v : PassKnowledge). Takes v c.in-Some-try_pop_as.logged_router (view c.try_pop_as.new.pass)) c.loop.invariant.1 c.in-Some-try_pop_as.ensures.rule
