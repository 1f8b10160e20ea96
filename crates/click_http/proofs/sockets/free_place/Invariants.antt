use Rattle.std.proofs.Common.{◌<◌, ◌≢◌, ℕ}
use Rattle.std.specs.Prelude.{None, slice_index_or}
use Rattle.click_http.proofs.sockets.free_place.Given as goal

-- none of the slots so far is free
abbrev pub invariant-loop-place : goal.invariant-loop-place
invariant-loop-place l = (k : ℕ) → k < l.place → slice_index_or l.places k None ≢ None
