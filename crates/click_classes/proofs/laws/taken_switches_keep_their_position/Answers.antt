use Rattle.std.proofs.Common.{refl}
use Rattle.click_classes.specs.declared.state.State.TheVariants as state
use Rattle.click_classes.proofs.OfStates.StateTakeOver.{position-kept, position-own, switch-goes-on}
use Rattle.click_classes.proofs.laws.taken_switches_keep_their_position.Goals as goal

pub returns : goal.returns
returns c = record {
  none = λ outputs own. refl;
  there = position-kept;
  past = position-own;
  fitting = λ inputs outputs own k fits. switch-goes-on inputs outputs (state.Switch own) (state.Switch k) refl refl fits;
}
