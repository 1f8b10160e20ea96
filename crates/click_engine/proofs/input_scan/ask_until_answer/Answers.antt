use Rattle.std.proofs.Common.{◌∙◌, arith}
use Rattle.click_engine.proofs.OfFrames.PulledInputs.{asked_none, asked_held, asked_more, asked_all}
use Rattle.click_engine.proofs.input_scan.ask_until_answer.Goals as goal

pub returns-then-pull_result-clause-asked : goal.returns-then-pull_result-clause-asked
returns-then-pull_result-clause-asked c =
    let t = c.loop-pull_result.input_scan in
    asked_held _ _ _ _ _ t _ _ c.pull_over-pull_result.result c.loop-pull_result.invariant.follows c.loop-pull_result.invariant.some c.pull_over-pull_result.ensures.reached
    c.move_on.ensures.moved c.if-pull_result.true

pub returns-then-pull_result-gt0-clause-asked : goal.returns-then-pull_result-gt0-clause-asked
returns-then-pull_result-gt0-clause-asked c =
    let t = c.loop-pull_result.input_scan in
    asked_more _ _ _ _ _ t _ _ c.pull_over-pull_result.result c.loop-pull_result.invariant.follows c.loop-pull_result.invariant.some c.pull_over-pull_result.ensures.reached
    c.move_on.ensures.moved (omega (arith, c.if-pull_result-gt0.true))

pub returns-then-input_scan-eq0-clause-asked : goal.returns-then-input_scan-eq0-clause-asked
returns-then-input_scan-eq0-clause-asked c =
    let t = c.loop-pull_result.input_scan in
    asked_all _ _ _ _ _ t _ _ c.pull_over-pull_result.result c.loop-pull_result.invariant.follows c.loop-pull_result.invariant.some c.pull_over-pull_result.ensures.reached
    c.move_on.ensures.moved c.if-pull_result.false (omega (arith, c.if-pull_result-gt0.false)) (omega (arith, c.if-input_scan-eq0.true))

pub loop-pull_result-preserved : goal.loop-pull_result-preserved
loop-pull_result-preserved c =
    let t = c.loop-pull_result.input_scan in
    record {
      follows = asked_none _ _ _ _ _ t _ _ c.pull_over-pull_result.result c.loop-pull_result.invariant.follows c.loop-pull_result.invariant.some c.pull_over-pull_result.ensures.reached
          c.move_on.ensures.moved c.if-pull_result.false (omega (arith, c.if-pull_result-gt0.false));
      some = omega (arith, c.if-input_scan-eq0.false);
      small = c.move_on.ensures.small;
      at = c.move_on.ensures.at ∙ c.loop-pull_result.invariant.at;
      count = c.pull_over-pull_result.ensures.count ∙ c.loop-pull_result.invariant.count;
    }
