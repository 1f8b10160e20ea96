-- When the listener is asked for connections.
use Rattle.std.specs.Prelude.{◌≡◌, ◌≢◌, ℕ, ◌-◌, ◌⊎◌, ltb, if◌then◌else◌}
use Rattle.std.specs.Time.{instant_nanos}
use Rattle.std.specs.declared.time.Instant.{Instant}
use Rattle.std.specs.declared.io.ErrorKind.{ErrorKind}
use Rattle.std.specs.declared.io.ErrorKind.TheVariants.{WouldBlock, Interrupted, ConnectionAborted}
use Rattle.click_http.specs.declared.accept_state.AcceptState.{AcceptState}
use Rattle.click_http.specs.declared.accept_state.AcceptState.TheVariants.{Open, Quiet, Shut}

-- the maximum duration of a sleep, in nanoseconds
abbrev pub tick_nanos : ℕ
tick_nanos = 100_000_000

-- The state after the system returned no connection. It is quiet if none waits, and open if only
-- this call or this connection failed. Any other failure, such as a shortage of descriptors, shuts
-- it now.
abbrev pub state_after : ErrorKind → Instant → AcceptState
state_after WouldBlock now = Quiet
state_after Interrupted now = Open
state_after ConnectionAborted now = Open
state_after _ now = Shut now

-- The state at a later time: a listener that was shut is open again one tick later.
abbrev pub state_at : AcceptState → Instant → AcceptState
state_at Open now = Open
state_at Quiet now = Quiet
state_at (Shut since) now = if ltb (instant_nanos now - instant_nanos since) tick_nanos then Shut since else Open

-- Connections were accepted from one state to the other. A listener that was not to be asked stays
-- unchanged. One that was asked is shut only by a failure of now.
pub record IsAsked (old new : AcceptState) (now : Instant) : Type 0 where
  pub left : state_at old now ≢ Open → new ≡ state_at old now
  pub asked : state_at old now ≡ Open → (new ≡ Open) ⊎ (new ≡ Quiet) ⊎ (new ≡ Shut now)
