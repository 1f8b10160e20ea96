use Rattle.click_classes.proofs.OfStates.FirstStates.{fresh-begins, fresh-sound}
use Rattle.click_classes.proofs.laws.made_states_are_settings.Goals as goal

pub returns : goal.returns
returns c = record {
  settings = λ k text s m. fresh-begins k _ s m.fresh;
  sound = λ k text s m. fresh-sound k _ s m.fresh;
}
