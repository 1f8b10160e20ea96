use Rattle.click_classes.proofs.OfQueues.QueueCounts.{queue-keeps}
use Rattle.click_classes.proofs.laws.queue_counts_each.Goals as goal

pub returns : goal.returns
returns c = queue-keeps
