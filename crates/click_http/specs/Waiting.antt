-- Which connection is closed if all slots are taken and a further one comes.
use Rattle.std.specs.Prelude.{◌≡◌, ◌≢◌, ◌⊎◌, ℕ, ◌-◌, ◌≤◌, ◌<◌, Bool, true, false, not, ◌&&◌, List, Option, None, Some, length, slice_index_or, slice_set, if◌then◌else◌}
use Rattle.std.specs.Time.{instant_nanos}
use Rattle.std.specs.declared.time.Instant.{Instant}
use Rattle.click_http.specs.declared.phase.Phase.{Phase}
use Rattle.click_http.specs.declared.phase.Phase.TheVariants.{Idle, Begun, Sending, HalfClosed}
use Rattle.click_http.specs.declared.peer.Peer.{Peer}
use Rattle.click_http.specs.declared.timer.Timer.{Timer}

abbrev pub is_idle : Phase → Bool
is_idle Idle = true
is_idle Begun = false
is_idle Sending = false
is_idle HalfClosed = false

-- the nanoseconds since the phase began
abbrev pub age : Timer → Instant → ℕ
age t now = instant_nanos now - instant_nanos t.since

-- How long a connection has only waited for a request, in nanoseconds: it is idle, and its socket
-- has nothing to read. 0 for any other connection.
abbrev pub waited : Peer → Instant → ℕ
waited p now = if is_idle p.timer.phase && not p.readable then age p.timer now else 0

abbrev pub waited_in : Option Peer → Instant → ℕ
waited_in None now = 0
waited_in (Some p) now = waited p now

-- how long the connection in the slot with an index has waited
abbrev pub waited_at : List (Option Peer) → Instant → ℕ → ℕ
waited_at places now at = waited_in (slice_index_or places at None) now

-- the connection in the slot has waited, and none has waited longer
pub record IsLongest (places : List (Option Peer)) (now : Instant) (at : ℕ) : Type 0 where
  pub within : at < length places
  pub waits : 0 < waited_at places now at
  pub longest : (k : ℕ) → k < length places → waited_at places now k ≤ waited_at places now at

-- no connection waits
abbrev pub NoneWaits : List (Option Peer) → Instant → Type 0
NoneWaits places now = (k : ℕ) → k < length places → waited_at places now k ≡ 0

-- the slot has no connection
pub record IsFree (places : List (Option Peer)) (at : ℕ) : Type 0 where
  pub within : at < length places
  pub empty : slice_index_or places at None ≡ None

-- no slot is free
abbrev pub NoneIsFree : List (Option Peer) → Type 0
NoneIsFree places = (k : ℕ) → k < length places → slice_index_or places k None ≢ None

-- The connection in the slot, which had waited longest, was closed.
pub record IsClosed (old new : List (Option Peer)) (now : Instant) (at : ℕ) : Type 0 where
  pub longest : IsLongest old now at
  pub closed : new ≡ slice_set old at None

-- The slot is free now. It was free before, or none was, and the connection in it, which had waited
-- longest, was closed.
pub record IsFreed (old new : List (Option Peer)) (now : Instant) (at : ℕ) : Type 0 where
  pub free : IsFree new at
  pub closed : ((new ≡ old) × IsFree old at) ⊎ (NoneIsFree old × IsLongest old now at × (new ≡ slice_set old at None))
