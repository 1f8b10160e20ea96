use Rattle.std.proofs.Common.{◌≡◌, true, map, vec_len}
use Rattle.click_rings.specs.Feeds.{name_of, have_distinct_devices}
use Rattle.click_tests.proofs.drivers.settle_all.Given as goal

abbrev pub invariant-loop-alloc : goal.invariant-loop-alloc
invariant-loop-alloc g l = record {
  names : map name_of l.book.consumers ≡ l.drivers.items;
  apart : have_distinct_devices l.drivers.items ≡ true;
}

abbrev pub decreases-loop-alloc : goal.decreases-loop-alloc
decreases-loop-alloc g l = vec_len l.drivers
