use Rattle.std.proofs.Common.{◌∙◌}
use Rattle.click_links.proofs.TurnSequences.{rounds_more, rounds_end, work_of, no_work_of}
use Rattle.click_links.proofs.sweeping.round_on.Goals as goal

pub returns-in-Ok-false-clause-ok : goal.returns-in-Ok-false-clause-ok
returns-in-Ok-false-clause-ok g c =
    let h = c.in-Ok-false.ensures.ok in
    rounds_end _ _ _ _ h.0 c.loop-count.invariant.rounds h.1 (no_work_of c.in-Ok-false.field-0 h.0 c.in-Ok-false.field-0-test h.2) c.loop-count-test.true

pub loop-count-preserved : goal.loop-count-preserved
loop-count-preserved g c =
    let h = c.in-Ok-true.ensures.ok in
    let s = c.loop-count.invariant.same in
    record {
      same = (c.round_once.ensures.same.0 ∙ s.0, c.round_once.ensures.same.1 ∙ s.1, c.round_once.ensures.same.2 ∙ s.2);
      rounds = rounds_more _ _ _ _ h.0 c.loop-count.invariant.rounds h.1 (work_of c.in-Ok-true.field-0 h.0 c.in-Ok-true.field-0-test h.2);
    }
