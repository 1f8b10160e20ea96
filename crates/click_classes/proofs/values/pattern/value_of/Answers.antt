use Rattle.std.proofs.Common.{Ok, ap, sym, ◌∙◌, arith}
use Rattle.click_classes.proofs.OfArguments.ListParts.{value_more, value_end}
use Rattle.click_classes.proofs.values.pattern.value_of.Goals as goal

pub loop-i-preserved : goal.loop-i-preserved
loop-i-preserved c =
    let more = value_more c.args.digits.now c.loop-i.value c.loop-i.i c.loop-i-test.true in
    rw (c.in_ok-push.ensures.ok, c.digit_value.ensures.value, c.digit_value-in-loop-i.ensures.value) (sym more ∙ c.loop-i.invariant)

pub returns : goal.returns
returns c = ap Ok (sym c.loop-i.invariant ∙ value_end c.args.digits.now c.loop-i.value c.loop-i.i (omega arith))
