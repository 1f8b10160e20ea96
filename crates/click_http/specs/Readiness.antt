-- What a connection can do without waiting, and for how long.
use Rattle.std.specs.Prelude.{◌≡◌, ◌≢◌, ◌⊎◌, ◌||◌, Bool, true, false, List, Option, None, Some, Any, if◌then◌else◌, ◌==◌, slice_set, slice_index_or}
use Rattle.std.specs.declared.time.Instant.{Instant}
use Rattle.mio.specs.declared.event.event.Event.{Event}
use Rattle.mio.specs.Event.{event_token, is_readable, is_writable, is_error, is_read_closed, is_write_closed}
use Rattle.http_server.specs.Connection.{config_of, history}
use Rattle.http_server.specs.History.{WantsRead, Rests}
use Rattle.click_http.specs.declared.settings.TheConstants.{MAX_CONNECTIONS}
use Rattle.click_http.specs.Leading.{page_config}
use Rattle.click_http.specs.Phases.{begins, after_turn, IsInTime, HasOutput, HasNoOutput, HasAnswer}
use Rattle.click_http.specs.declared.accept_state.AcceptState.{AcceptState}
use Rattle.click_http.specs.declared.accept_state.AcceptState.TheVariants.{Open}
use Rattle.click_http.specs.declared.phase.Phase.TheVariants.{Idle, Begun, Sending, HalfClosed}
use Rattle.click_http.specs.declared.timer.Verdict.{Verdict}
use Rattle.click_http.specs.declared.timer.Verdict.TheVariants.{Keep, Close, Refuse}
use Rattle.click_http.specs.declared.peer.Peer.{Peer}

-- Whether a connection can do something without waiting. After it ended its output it only reads.
-- Before, it writes if output is pending, else it reads if a request is to come, else it ends its
-- output, for which it never waits.
pub record IsReadiness (p : Peer) (ready : Bool) : Type 0 where
  pub drains : p.timer.phase ≡ HalfClosed → ready ≡ p.readable
  pub writes : p.timer.phase ≢ HalfClosed → HasOutput p.connection → ready ≡ p.writable
  pub reads : p.timer.phase ≢ HalfClosed → HasNoOutput p.connection → WantsRead page_config (history p.connection) → ready ≡ p.readable
  pub ends : p.timer.phase ≢ HalfClosed → HasNoOutput p.connection → ¬ (WantsRead page_config (history p.connection)) → ready ≡ true

-- The system reported the socket as readable or writable. A report adds to the ones before.
abbrev pub woken : Peer → Bool → Bool → Peer
woken p readable writable = record p { readable = p.readable || readable; writable = p.writable || writable }

-- A new connection is idle from now, and its socket may be ready.
pub record IsNew (p : Peer) (now : Instant) : Type 0 where
  pub idle : p.timer ≡ begins Idle now
  pub readable : p.readable ≡ true
  pub writable : p.writable ≡ true

-- A response that is pending has its whole time from now, unless nothing was read or written. A
-- connection that has sent its response is idle from now.
pub record IsTimed (old new : Peer) (now : Instant) : Type 0 where
  pub answer : HasAnswer new.connection → (new.timer ≡ begins Sending now) ⊎ ((new.timer ≡ old.timer) × (new.connection ≡ old.connection))
  pub sent : HasNoOutput new.connection → old.timer.phase ≡ Sending → new.timer ≡ begins Idle now

-- A read or write was made, and more may be possible without waiting. Only a call that would block
-- makes the socket not ready. Each request that was read is answered, unless output is pending.
pub record IsGoingOn (old new : Peer) : Type 0 where
  pub readable : new.readable ≡ old.readable
  pub writable : new.writable ≡ old.writable
  pub rests : (history new.connection ≡ history old.connection) ⊎ Rests (config_of new.connection) (history new.connection)

-- The output was ended: the rest of the input is awaited from now.
pub record IsHalfClosed (old new : Peer) (now : Instant) : Type 0 where
  pub timer : new.timer ≡ begins HalfClosed now
  pub connection : new.connection ≡ old.connection

-- A turn ended. Only the timer may have changed.
pub record IsAfterTurn (old new : Peer) (begun ended : Instant) : Type 0 where
  pub timer : new.timer ≡ after_turn old.timer begun ended
  pub connection : new.connection ≡ old.connection
  pub readable : new.readable ≡ old.readable
  pub writable : new.writable ≡ old.writable

-- What a time limit asks for: nothing before it is over. Then an incomplete request that is all that
-- the connection has is refused, and any other connection is closed.
pub record IsVerdict (p : Peer) (verdict : Verdict) (now : Instant) : Type 0 where
  pub in_time : IsInTime p.timer now → verdict ≡ Keep
  pub closed : ¬ (IsInTime p.timer now) → (p.timer.phase ≢ Begun) ⊎ HasOutput p.connection → verdict ≡ Close
  pub refused : ¬ (IsInTime p.timer now) → p.timer.phase ≡ Begun → HasNoOutput p.connection → verdict ≡ Refuse

-- The time limit was checked. In time, nothing happens. After the limit the connection is closed,
-- but if an incomplete request is all that it has, it is refused and its output ended, if possible.
-- If its output was ended, it is not closed now.
pub record IsLimited (old new : Peer) (lasts : Bool) (now : Instant) : Type 0 where
  pub in_time : IsInTime old.timer now → (lasts ≡ true) × (new ≡ old)
  pub closed : ¬ (IsInTime old.timer now) → (old.timer.phase ≢ Begun) ⊎ HasOutput old.connection → (lasts ≡ false) × (new ≡ old)
  pub refused : ¬ (IsInTime old.timer now) → old.timer.phase ≡ Begun → HasNoOutput old.connection
      → ((lasts ≡ false) × (new ≡ old)) ⊎ ((lasts ≡ true) × IsHalfClosed old new now)

-- The system reported an error, or that a direction of the socket is closed.
abbrev pub is_broken : Event → Bool
is_broken e = is_error e || is_read_closed e || is_write_closed e

-- A slot after the system reported its connection. A broken socket counts as ready, so that the next
-- read or write returns the error.
abbrev pub woken_place : Option Peer → Event → Option Peer
woken_place None e = None
woken_place (Some p) e = Some (woken p (is_readable e || is_broken e) (is_writable e || is_broken e))

-- what a report makes of the state of the listener, whose token is the number of the slots
abbrev pub noted_state : AcceptState → Event → AcceptState
noted_state state e = if (event_token e).0 == MAX_CONNECTIONS then Open else state

-- what a report makes of the slots: only the one with its token wakes
abbrev pub noted_places : List (Option Peer) → Event → List (Option Peer)
noted_places places e = slice_set places (event_token e).0 (woken_place (slice_index_or places (event_token e).0 None) e)

-- a slot has a connection that can do something without waiting
abbrev pub IsPlaceReady : Option Peer → Type 0
IsPlaceReady None = ⊥
IsPlaceReady (Some p) = IsReadiness p true

-- The listener is to be asked, or a connection can do something without waiting.
abbrev pub HasWork : AcceptState → List (Option Peer) → Type 0
HasWork accept_state places = (accept_state ≡ Open) ⊎ Any IsPlaceReady places
