use Rattle.click_gateway.proofs.Mirrored.{frame-twice}
use Rattle.click_gateway.proofs.laws.frames_mirrored_twice_are_the_same.Goals as goal

pub returns : goal.returns
returns c = frame-twice
