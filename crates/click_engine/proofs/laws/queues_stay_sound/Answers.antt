use Rattle.click_engine.proofs.OfInvariants.ElementInvariants.{arrive-sound, transmit-sound, round-sound}
use Rattle.click_engine.proofs.laws.queues_stay_sound.Goals as goal

pub returns : goal.returns
returns c = record { arrive = arrive-sound; transmit = transmit-sound; round = round-sound }
