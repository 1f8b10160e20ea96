use Rattle.std.proofs.Common.{ap, ◌∙◌}
use Rattle.click_desk.specs.declared.pass_knowledge.PassKnowledge.{PassKnowledge}
use Rattle.click_desk.proofs.QueueMoves.{meets, audits, parts}
use Rattle.click_desk.proofs.close.audit.Goals as goal

pub absorb-requires-clause-rule : goal.absorb-requires-clause-rule
absorb-requires-clause-rule g c = meets _ _ _ _ (ap (λ (v : PassKnowledge). v.opened) c.seat.invariant.1) (ap (λ (v : PassKnowledge). v.holds) c.requires.agent.1)

pub learn_as-requires-clause-rule : goal.learn_as-requires-clause-rule
learn_as-requires-clause-rule g c =
    let is = c.absorb.ensures.rule in
    audits _ _ (ap (λ (v : PassKnowledge). v.opened) is ∙ ap (λ (v : PassKnowledge). v.opened) c.seat.invariant.1) (ap (λ (v : PassKnowledge). v.holds) is)

pub another-requires-clause-rule : goal.another-requires-clause-rule
another-requires-clause-rule g c =
    let is = c.learn_as.ensures.queue.1 ∙ c.absorb.ensures.rule in
    parts _ _ (ap (λ (v : PassKnowledge). v.opened) is ∙ ap (λ (v : PassKnowledge). v.opened) c.seat.invariant.1) (ap (λ (v : PassKnowledge). v.holds) is)
