use Rattle.std.proofs.Common.{◌+◌, ◌-◌, ◌≡◌, arith, length-drop}
use Rattle.click_classes.proofs.OfPatterns.StepLists.{so_far_more, so_far_ends}
use Rattle.click_classes.proofs.patterns.steps_of.Goals as goal

pub loop-at-preserved : goal.loop-at-preserved
loop-at-preserved c =
    let value = c.args.value.now in
    let mask = c.args.mask.now in
    let at = c.loop-at.at in
    let k = c.min.result in
    let small = c.min.ensures in
    let len = c.min-len.ensures in
    let least = c.loop-at.invariant.least in
    let most = c.loop-at.invariant.most in
    let value_left = length-drop at value in
    let mask_left = length-drop at mask in
    let within = c.loop-at-test.true in
    let cut : at + k - at ≡ k = omega arith in
    let step = rw cut at c.step_of.ensures in
    record {
      least = omega (arith, least);
      most = omega (arith, most, small, within);
      so_far = rw c.in_ok-push.ensures.ok (so_far_more c.args.offset value mask c.args.from at k c.loop-at.steps c.step_of.result
          (omega (arith, value_left, small, len, within)) (omega (arith, mask_left, small, len, within)) c.loop-at.invariant.so_far step);
    }

pub returns : goal.returns
returns c =
    let len = c.min-len.ensures in
    let done = c.loop-at-test.false in
    so_far_ends c.args.offset c.args.value.now c.args.mask.now c.args.from c.loop-at.at c.loop-at.steps (omega (arith, len, done)) c.loop-at.invariant.so_far
