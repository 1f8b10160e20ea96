use Rattle.click_handlers.proofs.WriteInvariants.{element-kept, fits-after}
use Rattle.click_handlers.proofs.laws.writes_keep_elements_fitting.Goals as goal

pub returns : goal.returns
returns c = record {
  class = λ handler text e f done. (element-kept handler text e f done).state.its_class;
  rest = λ handler text e f done. let k = element-kept handler text e f done in (k.class, k.inputs, k.outputs);
  fits = fits-after;
  sound = λ handler text e f done. (element-kept handler text e f done).state.sound;
}
