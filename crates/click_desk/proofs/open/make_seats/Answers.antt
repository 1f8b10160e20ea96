use Rattle.std.proofs.Common.{ap}
use Rattle.click_desk.specs.declared.pass_knowledge.PassKnowledge.{PassKnowledge}
use Rattle.click_desk.proofs.QueueMoves.{seats}
use Rattle.click_desk.proofs.open.make_seats.Goals as goal

pub another-pass-requires-clause-rule : goal.another-pass-requires-clause-rule
another-pass-requires-clause-rule g c =
    let is = c.loop-number.invariant.known in
    seats _ _ (ap (λ (v : PassKnowledge). v.opened) is) (ap (λ (v : PassKnowledge). v.makes) is) (ap (λ (v : PassKnowledge). v.acts) is)
