use Rattle.std.proofs.Common.{arith}
use Rattle.click_text.specs.Words.{IsWithoutComments}
use Rattle.click_classes.proofs.OfArguments.ArgumentValues.{one_more_read}
use Rattle.click_classes.proofs.arguments.Arguments.texts.Goals as goal

pub loop-place-preserved : goal.loop-place-preserved
loop-place-preserved c =
    let next = rw c.at.ensures at c.in_ok-without_comments.ensures.ok in
    rw c.in_ok-push.ensures.ok (one_more_read IsWithoutComments c.args.self.now c.loop-place.all c.loop-place.place _ (omega arith) c.loop-place.invariant next)
