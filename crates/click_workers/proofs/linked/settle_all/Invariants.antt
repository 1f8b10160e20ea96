use Rattle.std.proofs.Common.{◌≡◌, ◌≤◌, true, [], length, map, option_map, vec_len, vec_capacity}
use Rattle.std.specs.List.{All}
use Rattle.std.specs.Vec.Iter.{into_iter_items}
use Rattle.click_rings.specs.Feeds.{have_distinct_devices}
use Rattle.click_workers.specs.Linked.{HasRing, IsSettled}
use Rattle.click_workers.specs.Work.{SideBySide}
use Rattle.click_workers.proofs.linked.settle_all.Given as goal

-- The book still has the feed of each link that is not settled yet.
abbrev pub invariant-loop-receiver : goal.invariant-loop-receiver
invariant-loop-receiver g l = record {
  book : l.book ≡ record l.initial.book { consumers = l.book.consumers };
  none : l.initial.book.consumers ≡ [] → l.book.consumers ≡ [];
  feeds : All (λ r. HasRing l.book.consumers r.device r.intake.feed.ring) (into_iter_items l.receiver-iterator);
  apart : have_distinct_devices (map (λ r. record { device = r.device; ring = r.intake.feed.ring }) (into_iter_items l.receiver-iterator)) ≡ true;
  room : (vec_len l.ends ≡ length l.yielded) × (length l.fn.receivers.items ≤ vec_capacity l.ends);
  ends : SideBySide (λ r e. (e.device ≡ r.device) × (e.link ≡ r.link) × (e.received ≡ r.received) × IsSettled l.initial.book.entries r.device r.intake.feed.put (option_map (λ v. v.items) e.left)) l.yielded l.ends.items;
}
