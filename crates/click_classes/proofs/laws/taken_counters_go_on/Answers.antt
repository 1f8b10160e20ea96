use Rattle.std.proofs.Common.{refl}
use Rattle.click_classes.proofs.laws.taken_counters_go_on.Goals as goal

pub returns : goal.returns
returns c = λ outputs n b m d. refl
