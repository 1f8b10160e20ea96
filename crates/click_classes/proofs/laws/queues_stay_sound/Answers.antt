use Rattle.click_classes.proofs.OfQueues.QueueSoundness.{act-sound, gives-sound, stored-sound, emission-sound}
use Rattle.click_classes.proofs.laws.queues_stay_sound.Goals as goal

pub returns : goal.returns
returns c = record { pushed = act-sound; pulled = gives-sound; stored = stored-sound; emitted = emission-sound }
