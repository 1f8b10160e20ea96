-- The phases of a connection, and their time limits.
use Rattle.std.specs.Prelude.{◌≡◌, ◌≢◌, ℕ, ◌*◌, ◌-◌, ◌<◌, ◌==◌, if◌then◌else◌, Bool, IsTrue, IsFalse, length, take}
use Rattle.std.specs.Time.{instant_nanos}
use Rattle.std.specs.declared.time.Instant.{Instant}
use Rattle.http_server.specs.declared.connection.Connection.{Connection}
use Rattle.http_server.specs.Connection.{history}
use Rattle.http_server.specs.Exchange.{continue_text}
use Rattle.click_http.specs.declared.phase.Phase.{Phase}
use Rattle.click_http.specs.declared.phase.Phase.TheVariants.{Idle, Begun, Sending, HalfClosed}
use Rattle.click_http.specs.declared.timer.Timer.{Timer}

-- the maximum number of seconds of a phase
abbrev pub limit_secs : Phase → ℕ
limit_secs Idle = 75
limit_secs Begun = 10
limit_secs Sending = 10
limit_secs HalfClosed = 2

-- a phase that begins at this time
abbrev pub begins : Phase → Instant → Timer
begins phase now = record { phase = phase; since = now }

-- less time than the maximum is over since the phase began
abbrev pub IsInTime : Timer → Instant → Type 0
IsInTime t now = instant_nanos now - instant_nanos t.since < limit_secs t.phase * 1_000_000_000

-- Bytes were read. An idle connection begins a request now. In any other phase nothing changes, so
-- a request that comes in pieces gains no time.
pub record NotesBytes (old new : Timer) (now : Instant) : Type 0 where
  pub begun : old.phase ≡ Idle → new ≡ begins Begun now
  pub other : old.phase ≢ Idle → new ≡ old

-- The service was called. A response that is pending has its whole time from now. If none is
-- pending, a connection that sent one is idle from now, and any other keeps its phase and its time.
pub record NotesCall (old new : Timer) (has_answer : Bool) (now : Instant) : Type 0 where
  pub answer : IsTrue has_answer → new ≡ begins Sending now
  pub sent : IsFalse has_answer → old.phase ≡ Sending → new ≡ begins Idle now
  pub other : IsFalse has_answer → old.phase ≢ Sending → new ≡ old

-- A turn ended. A limit that began in the turn, or began again in it, counts from the end of the
-- turn, because the service may take a while to make a response.
abbrev pub after_turn : Timer → Instant → Instant → Timer
after_turn t begun ended = if instant_nanos begun - instant_nanos t.since == 0 then begins t.phase ended else t

-- output is pending
abbrev pub HasOutput : Connection → Type 0
HasOutput c = 0 < length (history c).pending

-- no output is pending
abbrev pub HasNoOutput : Connection → Type 0
HasNoOutput c = length (history c).pending ≡ 0

-- A response is pending: there is output, and it does not begin with the interim response.
abbrev pub HasAnswer : Connection → Type 0
HasAnswer c = HasOutput c × (take (length continue_text) (history c).pending ≢ continue_text)

-- The phase is one that a connection can be in: a response is pending only while it is sent, and
-- the output ends only after everything was sent.
pub record Suits (phase : Phase) (c : Connection) : Type 0 where
  pub sending : phase ≡ Sending → HasOutput c
  pub answer : HasAnswer c → phase ≡ Sending
  pub half_closed : phase ≡ HalfClosed → HasNoOutput c
