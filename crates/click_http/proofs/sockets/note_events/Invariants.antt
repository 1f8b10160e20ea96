use Rattle.std.proofs.Common.{◌≡◌, ◌≤◌, length, map}
use Rattle.std.specs.Prelude.{fold}
use Rattle.click_http.specs.declared.settings.TheConstants.{MAX_CONNECTIONS}
use Rattle.click_http.specs.Readiness.{noted_state, noted_places}
use Rattle.click_http.proofs.sockets.note_events.Given as goal

abbrev pub invariant-loop-event : goal.invariant-loop-event
invariant-loop-event l = record {
  state : l.accept_state ≡ fold noted_state l.initial.accept_state (map (λ e. e.now) l.yielded);
  places : length l.initial.places ≤ MAX_CONNECTIONS → l.places ≡ fold noted_places l.initial.places (map (λ e. e.now) l.yielded);
  count : length l.places ≡ length l.initial.places;
}
