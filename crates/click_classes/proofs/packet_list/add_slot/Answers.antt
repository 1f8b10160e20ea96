-- The new slot is the last one, and holds a copy.
use Rattle.std.proofs.Common.{◌≡◌, [], length, arith}
use Rattle.std.proofs.Math.Seq.{set-append_seam}
use Rattle.click_classes.proofs.packet_list.add_slot.Goals as goal

pub returns-clause-items : goal.returns-clause-items
returns-clause-items c =
    let xs = c.args.slots.now.items in
    let seam = set-append_seam xs c.empty.result [] c.args.packet.now in
    let at : c.len-made.result ≡ length xs = omega (arith, c.len-made.ensures, c.args.slots.now.ok.0) in
    rw (c.copy_from.ensures, c.push_reserved.ensures.items, at) seam
