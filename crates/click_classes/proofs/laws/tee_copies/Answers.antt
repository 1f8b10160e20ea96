use Rattle.std.proofs.Common.{refl}
use Rattle.click_classes.specs.Acts.{act}
use Rattle.click_classes.proofs.laws.tee_copies.Goals as goal

pub returns : goal.returns
unfolding act
returns c = λ outputs input n p. refl
