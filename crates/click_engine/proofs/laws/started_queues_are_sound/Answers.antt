use Rattle.click_engine.proofs.OfInvariants.ElementInvariants.{begins-sound}
use Rattle.click_engine.proofs.laws.started_queues_are_sound.Goals as goal

pub returns : goal.returns
returns c = λ net states v is h. begins-sound net states v is h
