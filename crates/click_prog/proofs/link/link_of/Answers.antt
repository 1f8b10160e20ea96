use Rattle.std.proofs.Common.{arith, refl, sym}
use Rattle.click_prog.proofs.Spelling.{link-of, no-link-far, no-link-near, no-link-unnamed, no-link-unpaired, no-link-whole}
use Rattle.click_prog.proofs.link.link_of.Goals as goal

pub returns-in_err-device : goal.returns-in_err-device
returns-in_err-device c = rw c.from_residual.ensures (no-link-whole c.args.value.now c.in_err-device.ensures.cases)

pub returns-then-not-is_device : goal.returns-then-not-is_device
returns-then-not-is_device c =
    no-link-unnamed c.args.value.now (c.in_ok-device.device, c.in_ok-device.places) c.in_ok-device.ensures.cases (sym (rw c.as_bytes.ensures.value at c.if-not-is_device.ensures))

pub returns-in_err-here : goal.returns-in_err-here
returns-in_err-here c =
    rw c.from_residual-in_err-here.ensures
    (no-link-unpaired c.args.value.now (c.in_ok-device.device, c.in_ok-device.places) c.in_ok-device.ensures.cases c.in_err-here.ensures.cases)

pub returns-in_err-place_of : goal.returns-in_err-place_of
returns-in_err-place_of c =
    rw c.from_residual-in_err-place_of.ensures
    (no-link-near c.args.value.now (c.in_ok-device.device, c.in_ok-device.places) (c.in_ok-here.here, c.in_ok-here.there) c.in_ok-device.ensures.cases c.in_ok-here.ensures.cases c.in_err-place_of.ensures)

pub returns-in_err-place_of-2 : goal.returns-in_err-place_of-2
returns-in_err-place_of-2 c =
    rw c.from_residual-in_err-place_of-2.ensures
    (no-link-far c.args.value.now (c.in_ok-device.device, c.in_ok-device.places) (c.in_ok-here.here, c.in_ok-here.there) c.in_ok-device.ensures.cases c.in_ok-here.ensures.cases c.in_err-place_of-2.ensures)

pub returns : goal.returns
returns c =
    link-of c.args.value.now (c.in_ok-device.device, c.in_ok-device.places) (c.in_ok-here.here, c.in_ok-here.there) _ c.in_ok-device.ensures.cases c.in_ok-here.ensures.cases refl
    (grind arith) c.in_ok-place_of.ensures c.in_ok-place_of-2.ensures
