-- The new place is the last one.
use Rattle.std.proofs.Common.{◌≡◌, [], length, None, Some, arith}
use Rattle.std.proofs.Math.Seq.{set-append_seam}
use Rattle.click_classes.specs.Neighbours.{Neighbour}
use Rattle.click_classes.proofs.neighbours.add_waiting.Goals as goal

pub returns-clause-items : goal.returns-clause-items
returns-clause-items c =
    let xs = c.args.places.now.items in
    let new : Neighbour = record { address = c.args.address; ether = None; waiting = Some c.args.packet.now; used = c.args.now } in
    let seam = set-append_seam xs c.empty.result [] new in
    let at : c.len-made.result ≡ length xs = omega (arith, c.len-made.ensures, c.args.places.now.ok.0) in
    rw (c.wait_for.ensures, c.push_reserved.ensures.items, at) seam
