-- The counts of a link: which counter is added to, and what a reading of all of them returns.
use Rattle.std.specs.Prelude.{ℕ, Bool, true, false, Option, Some, None}
use Rattle.click_links.specs.declared.counts.CounterSet.{CounterSet}
use Rattle.click_links.specs.declared.counts.CountSnapshot.{CountSnapshot}
use Rattle.click_links.specs.declared.datagram.DatagramOutcome.{DatagramOutcome}
use Rattle.click_links.specs.declared.datagram.DatagramOutcome.TheVariants.{Enqueued, ForeignSender, TooLong, FeedFull, NoMemory}

-- The counter of the datagrams that were dropped with this fate, if it is the fate of a drop.
abbrev pub counter_of_fate : {C : Type 0} → CounterSet C → DatagramOutcome → Option C
counter_of_fate counters Enqueued = None
counter_of_fate counters ForeignSender = Some counters.strangers
counter_of_fate counters TooLong = Some counters.too_long
counter_of_fate counters FeedFull = Some counters.no_room
counter_of_fate counters NoMemory = Some counters.no_memory

-- The counter of the packets that were sent, or of those that were lost.
abbrev pub counter_of_send : {C : Type 0} → CounterSet C → Bool → C
counter_of_send counters true = counters.sent
counter_of_send counters false = counters.failed

-- Each number of the snapshot is one that the counter of the same name may show.
pub record IsReadOf {C : Type 0} (may_show : C → ℕ → Type 0) (counters : CounterSet C) (snapshot : CountSnapshot) : Type 0 where
  pub received : may_show counters.received snapshot.received
  pub strangers : may_show counters.strangers snapshot.strangers
  pub too_long : may_show counters.too_long snapshot.too_long
  pub no_room : may_show counters.no_room snapshot.no_room
  pub no_memory : may_show counters.no_memory snapshot.no_memory
  pub entered : may_show counters.entered snapshot.entered
  pub sent : may_show counters.sent snapshot.sent
  pub failed : may_show counters.failed snapshot.failed
