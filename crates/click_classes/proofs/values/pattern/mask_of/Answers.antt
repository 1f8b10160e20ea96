use Rattle.std.proofs.Common.{Ok, ap, sym, ◌∙◌, arith}
use Rattle.click_classes.proofs.OfArguments.ListParts.{mask_more, mask_end}
use Rattle.click_classes.proofs.values.pattern.mask_of.Goals as goal

pub loop-i-preserved : goal.loop-i-preserved
loop-i-preserved c =
    let more = mask_more c.args.digits.now c.args.mask.now c.loop-i.bytes c.loop-i.i c.requires c.loop-i-test.true in
    rw (c.in_ok-push.ensures.ok, c.counted_bits.ensures.value, c.counted_bits-in-loop-i.ensures.value) (sym more ∙ c.loop-i.invariant)

pub returns : goal.returns
returns c = ap Ok (sym c.loop-i.invariant ∙ mask_end c.args.digits.now c.args.mask.now c.loop-i.bytes c.loop-i.i (omega arith))
