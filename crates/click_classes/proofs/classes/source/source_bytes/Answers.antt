use Rattle.std.proofs.Common.{None, Some, refl, inr, arith}
use Rattle.click_classes.proofs.OfArguments.ArgumentValues.{bytes_given, source_long, source_short}
use Rattle.click_classes.proofs.classes.source.source_bytes.Goals as goal

pub returns-in_default-2 : goal.returns-in_default-2
returns-in_default-2 c =
    inr (bytes_given c.in-Some.first.now _ None _ c.in-Some.ensures (rw c.in_default-2.is at c.in_ok-bytes.ensures.ok) refl)

pub returns-then-len-gt1600 : goal.returns-then-len-gt1600
returns-then-len-gt1600 c =
    let items = c.in-Some-2.bytes.items in
    inr (bytes_given c.in-Some.first.now _ (Some items) _ c.in-Some.ensures (rw c.in-Some-2.is at c.in_ok-bytes.ensures.ok) (source_long items (omega arith)))

pub returns : goal.returns
returns c =
    let items = c.in-Some-2.bytes.items in
    rw c.of-2.ensures (bytes_given c.in-Some.first.now _ (Some items) _ c.in-Some.ensures (rw c.in-Some-2.is at c.in_ok-bytes.ensures.ok) (source_short items (omega arith)))
