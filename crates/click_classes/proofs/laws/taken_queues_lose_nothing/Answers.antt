use Rattle.click_classes.proofs.OfStates.StateTakeOver.{front}
use Rattle.click_classes.proofs.laws.taken_queues_lose_nothing.Goals as goal

pub returns : goal.returns
returns c = front
