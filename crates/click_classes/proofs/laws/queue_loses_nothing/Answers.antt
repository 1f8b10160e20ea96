use Rattle.click_classes.proofs.OfQueues.QueueDrops.{room, full, full_front, pulled}
use Rattle.click_classes.proofs.laws.queue_loses_nothing.Goals as goal

pub returns : goal.returns
returns c = record { room = room; full = full; full_front = full_front; pulled = pulled }
