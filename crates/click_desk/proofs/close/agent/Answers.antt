use Rattle.std.proofs.Common.{ap}
use Rattle.click_desk.specs.declared.pass_knowledge.PassKnowledge.{PassKnowledge}
use Rattle.click_desk.proofs.QueueMoves.{agents}
use Rattle.click_desk.proofs.close.agent.Goals as goal

pub another-requires-clause-rule : goal.another-requires-clause-rule
another-requires-clause-rule g c = agents _ _ (ap (λ (v : PassKnowledge). v.opened) c.seat.invariant.1)
