-- The new place is the last one.
use Rattle.std.proofs.Common.{◌≡◌, [], length, arith}
use Rattle.std.proofs.Math.Seq.{set-append_seam}
use Rattle.click_classes.proofs.neighbours.add_copy.Goals as goal

pub returns-clause-items : goal.returns-clause-items
returns-clause-items c =
    let xs = c.args.places.now.items in
    let seam = set-append_seam xs c.empty.result [] c.args.place.now in
    let at : c.len-made.result ≡ length xs = omega (arith, c.len-made.ensures, c.args.places.now.ok.0) in
    rw (c.copy_from.ensures, c.push_reserved.ensures.items, at) seam
