use Rattle.std.proofs.Common.{◌≡◌, ℕ, ◌<◌, slice_index_or}
use Rattle.click_desk.specs.History.{installs}
use Rattle.click_desk.specs.SeatStates.{SeatState, IsSeat}
use Rattle.click_views.specs.Showing.{BeginsWith}
use Rattle.click_workers.proofs.checking.learn_all.Given as goal

abbrev pub invariant-loop-at : goal.invariant-loop-at
invariant-loop-at g l = record {
  board : l.view.board ≡ l.initial.view.board;
  told : (k : ℕ) → k < l.at → (d : SeatState) → IsSeat (slice_index_or l.seats k d)
      × BeginsWith l.view.list (installs (slice_index_or l.seats k d).desk.options.opening (slice_index_or l.seats k d).seen);
}
