use Rattle.click_gateway.proofs.Mirrored.{checksum-good}
use Rattle.click_gateway.proofs.laws.set_checksums_are_right.Goals as goal

pub returns : goal.returns
returns c = checksum-good
