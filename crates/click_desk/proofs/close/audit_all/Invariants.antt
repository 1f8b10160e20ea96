use Rattle.std.proofs.Common.{◌≡◌, ℕ, ◌<◌, slice_index_or}
use Rattle.crossbeam_queue.specs.Passes.{view, IsPassOf}
use Rattle.click_desk.specs.Views.{holding}
use Rattle.click_desk.specs.Closing.{IsEntered}
use Rattle.click_desk.specs.SeatStates.{SeatState}
use Rattle.click_desk.proofs.close.audit_all.Given as goal

abbrev pub invariant-loop-i : goal.invariant-loop-i
invariant-loop-i g l = record {
  same : l.seats ≡ l.initial.seats;
  agent : IsPassOf l.queue l.agent;
  known : (view l.agent).seen ≡ (view l.initial.agent).seen;
  holds : view l.agent ≡ holding (view l.agent).options (view l.agent).seen;
  entered : (k : ℕ) → k < l.i → (d : SeatState) → IsEntered (view l.initial.agent).seen (slice_index_or l.initial.seats k d);
}
