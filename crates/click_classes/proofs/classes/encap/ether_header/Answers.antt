use Rattle.std.proofs.Common.{◌≡◌, ◌∷◌, [], ◌/◌, ◌%◌, length, arith}
use Rattle.click_classes.proofs.OfArguments.SixBytes.{two_of_six}
use Rattle.click_classes.proofs.classes.encap.ether_header.Goals as goal

pub returns : goal.returns
returns c =
    let d : length c.args.destination ≡ 6 = omega arith in
    let s : length c.args.source ≡ 6 = omega arith in
    rw (c.as_slice-to.ensures, c.as_slice-from.ensures) (two_of_six c.args.destination c.args.source ((c.args.ether_type / 256) ∷ (c.args.ether_type % 256) ∷ []) d s)
