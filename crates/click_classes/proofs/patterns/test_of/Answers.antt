use Rattle.std.proofs.Common.{length, ap, arith}
use Rattle.click_classes.proofs.OfPatterns.StepLists.{test_made}
use Rattle.click_classes.proofs.patterns.test_of.Goals as goal

pub returns : goal.returns
returns c =
    let clause = c.args.clause.now in
    let value = c.as_slice-value.ensures in
    let mask = c.as_slice-mask.ensures in
    let offset = c.from-offset.ensures in
    let value_len = ap length value in
    let mask_len = ap length mask in
    let k = c.min-end.result in
    let one = c.min.ensures in
    let two = c.min-end.ensures in
    test_made clause k c.step_of.result c.in_ok-steps_of.field-0 (omega (arith, value_len, mask_len, one, two)) (omega (arith, value_len, mask_len, one, two))
    (rw (offset, value, mask) at c.step_of.ensures) (rw (offset, value, mask) at c.in_ok-steps_of.ensures)
