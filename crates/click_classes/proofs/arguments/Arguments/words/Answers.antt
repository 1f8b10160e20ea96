use Rattle.std.proofs.Common.{arith}
use Rattle.click_text.specs.Words.{AreWords}
use Rattle.click_classes.proofs.OfArguments.ArgumentValues.{one_more_read}
use Rattle.click_classes.proofs.arguments.Arguments.words.Goals as goal

pub loop-place-preserved : goal.loop-place-preserved
loop-place-preserved c =
    let next = rw c.at.ensures at c.in_ok-cut.ensures.ok in
    rw (c.in_ok-push.ensures.ok, c.of.ensures) (one_more_read AreWords c.args.self.now c.loop-place.all c.loop-place.place _ (omega arith) c.loop-place.invariant next)
