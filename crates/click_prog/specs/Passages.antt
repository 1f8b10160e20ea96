-- A router between two devices: packets enter at the source of one and leave at the sink of the
-- other.
use Rattle.std.specs.Prelude.{◌≡◌, ℕ, List, [], ◌∷◌, Option, Some, None, IsSome}
use Rattle.click_packet.specs.Packet.{Packet}
use Rattle.click_engine.specs.Rounds.{source_of, sink_of}
use Rattle.click_router.specs.One.{Answers}
use Rattle.click_router.specs.State.{RouterState}
use Rattle.click_router.specs.declared.call.Call.TheVariants as call
use Rattle.click_router.specs.declared.call.Reply.TheVariants as reply

-- a router, the device at whose source packets enter, and the device at whose sink they leave
pub record PassageState : Type 0 where
  pub router : RouterState
  pub source : List ℕ
  pub sink : List ℕ

-- the router has the source and the sink
pub record HasEnds (w : PassageState) : Type 0 where
  pub enters : IsSome (source_of w.router.plant w.source)
  pub leaves : IsSome (sink_of w.router.plant w.sink)

-- a router with its devices, after its router became this one
abbrev pub went : PassageState → RouterState → PassageState
went w s = record w { router = s }

-- the packet of bytes that were read from a capture, with paint 0 and destination 0.0.0.0
abbrev pub packet_of : List ℕ → Packet
packet_of bytes = record { bytes = bytes; paint = 0; destination = 0 ∷ 0 ∷ 0 ∷ 0 ∷ [] }

-- A packet enters by an Arrive at the source, and a Round follows.
pub record Enters (source : List ℕ) (p : Packet) (old new : RouterState) : Type 0 where
  pub between : RouterState
  pub worked : ℕ
  pub arrives : Answers old (call.Arrive source p) between (reply.Entered 1)
  pub works : Answers between call.Round new (reply.Worked worked)

-- the sink was asked for a packet by a Transmit, with this answer
abbrev pub Asked : List ℕ → RouterState → Option Packet → RouterState → Type 0
Asked sink old packet new = Answers old (call.Transmit sink) new (reply.Sent packet)

-- the sink was asked several times, and returned these packets
abbrev pub Gave : List ℕ → RouterState → List Packet → RouterState → Type 0
Gave sink old [] new = new ≡ old
Gave sink old (p ∷ ps) new = (next : RouterState) × Asked sink old (Some p) next × Gave sink next ps new

-- What a packet leads to: it enters, each task runs once, and the sink returns these packets and
-- then none.
pub record Leads (source sink : List ℕ) (p : Packet) (old : RouterState) (sent : List Packet) (new : RouterState) : Type 0 where
  pub entered : RouterState
  pub emptied : RouterState
  pub enters : Enters source p old entered
  pub gave : Gave sink entered sent emptied
  pub none : Asked sink emptied None new
