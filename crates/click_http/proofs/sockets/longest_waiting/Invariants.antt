use Rattle.std.proofs.Common.{◌≡◌, ◌≤◌, ◌<◌, ℕ}
use Rattle.std.specs.Prelude.{MatchOption}
use Rattle.click_http.specs.Waiting.{waited_at}
use Rattle.click_http.proofs.sockets.longest_waiting.Given as goal

-- of the slots so far, none has waited longer than the one that was found
abbrev pub invariant-loop-at : goal.invariant-loop-at
invariant-loop-at l = record {
  best : (k : ℕ) → k < l.at → waited_at l.places l.now k ≤ l.longest;
  found : MatchOption l.found (l.longest ≡ 0) (λ place. (place < l.at) × (l.longest ≡ waited_at l.places l.now place) × (0 < l.longest));
}
