use Rattle.std.proofs.Common.{refl}
use Rattle.click_gateway.specs.Arp.{reply_to}
use Rattle.click_gateway.proofs.arp.reply_to_request.Goals as goal

pub returns : goal.returns
unfolding reply_to
returns c =
    rw (c.replace.ensures, c.as_slice.ensures, c.arp_frame-reply.ensures, c.six-asking.ensures, c.four.ensures, c.four-2.ensures, c.bytes-frame.ensures.value) refl
