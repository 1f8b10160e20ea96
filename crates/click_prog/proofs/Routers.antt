-- Lemmas on packets and rounds: they leave a router its devices.
use Rattle.std.proofs.Common.{◌≡◌, ℕ, true≢false, List, [], ◌∷◌, length, Option, Some, None, IsSome, refl, sym, ap, subst}
use Rattle.click_packet.specs.Packet.{Packet}
use Rattle.click_engine.specs.Devices.{Device, element_with}
use Rattle.click_engine.specs.Keeps.{KeepsRest}
use Rattle.click_engine.specs.Plant.{Plant}
use Rattle.click_engine.specs.Rounds.{arrive, transmit, transmitted, round, source_of, sink_of}
use Rattle.click_engine.proofs.OfInvariants.ElementInvariants.{arrive-settings, transmit-settings, round-settings}
use Rattle.click_router.specs.One.{Answers, arrivals, entered, worked, sent}
use Rattle.click_router.specs.State.{RouterState}
use Rattle.click_router.specs.declared.call.Call.TheVariants as call
use Rattle.click_router.specs.declared.call.Reply.{Reply}
use Rattle.click_router.specs.declared.call.Reply.TheVariants as reply
use Rattle.click_prog.specs.Passages.{PassageState, HasEnds, Enters, Asked, went}

pub record SameDevices (s t : RouterState) : Type 0 where
  pub sources : t.plant.sources ≡ s.plant.sources
  pub sinks : t.plant.sinks ≡ s.plant.sinks

with_plant : (s : RouterState) (v : Plant) → KeepsRest s.plant v → SameDevices s (record s { plant = v })
with_plant s v h = record { sources = ap (λ (x : Plant). x.sources) h; sinks = ap (λ (x : Plant). x.sinks) h }

none_there : {P : Type 0} → IsSome {T = ℕ} None → P
none_there e = absurd (true≢false (sym e))

-- the reply to an arrival, by the source of its device
abbrev arrived : RouterState → List ℕ → List Packet → Option ℕ → RouterState × Reply
arrived s device taken o = elim o [
  | None ↦ (s, reply.NoDevice)
  | Some at ↦ (record s { plant = arrivals s.plant device taken }, reply.Entered (length taken))
]

by_source : (s : RouterState) (device : List ℕ) (p : Packet) (o : Option ℕ) → IsSome o
    → ((arrived s device (p ∷ []) o).1 ≡ reply.Entered 1) × SameDevices s (arrived s device (p ∷ []) o).0
by_source s device p None has = none_there has
by_source s device p (Some at) has = (refl, with_plant s (arrive s.plant device p) (arrive-settings s.plant device p).rest)

-- if there is a source, a packet enters
pub arrival-so : (s t : RouterState) (device : List ℕ) (p : Packet) (r : Reply) → IsSome (source_of s.plant device) → entered s device (p ∷ []) ≡ (t, r)
    → (r ≡ reply.Entered 1) × SameDevices s t
arrival-so s t device p r has is =
    subst (λ (q : RouterState × Reply). (q.1 ≡ reply.Entered 1) × SameDevices s q.0) is (by_source s device p (source_of s.plant device) has)

-- the reply to a Transmit, by the sink of its device
abbrev taken_by : RouterState → List ℕ → Option ℕ → RouterState × Reply
taken_by s device o = elim o [
  | None ↦ (s, reply.NoDevice)
  | Some at ↦ (record s { plant = transmit s.plant device }, reply.Sent (transmitted s.plant device))
]

by_sink : (s : RouterState) (device : List ℕ) (o : Option ℕ) → IsSome o
    → ((packet : Option Packet) × ((taken_by s device o).1 ≡ reply.Sent packet)) × SameDevices s (taken_by s device o).0
by_sink s device None has = none_there has
by_sink s device (Some at) has = ((transmitted s.plant device, refl), with_plant s (transmit s.plant device) (transmit-settings s.plant device).rest)

-- if there is a sink, it returns a packet or none
pub transmit-so : (s t : RouterState) (device : List ℕ) (r : Reply) → IsSome (sink_of s.plant device) → sent s device ≡ (t, r)
    → ((packet : Option Packet) × (r ≡ reply.Sent packet)) × SameDevices s t
transmit-so s t device r has is =
    subst (λ (q : RouterState × Reply). ((packet : Option Packet) × (q.1 ≡ reply.Sent packet)) × SameDevices s q.0) is (by_sink s device (sink_of s.plant device) has)

pub round-so : (s t : RouterState) (r : Reply) → worked s ≡ (t, r) → SameDevices s t
round-so s t r is = subst (λ (q : RouterState × Reply). SameDevices s q.0) is (with_plant s (round s.plant).plant (round-settings s.plant).rest)

pub still-ends : (w : PassageState) (t : RouterState) → SameDevices w.router t → HasEnds w → HasEnds (went w t)
still-ends w t same h = record {
  enters = subst (λ (ds : List Device). IsSome (element_with ds w.source)) (sym same.sources) h.enters;
  leaves = subst (λ (ds : List Device). IsSome (element_with ds w.sink)) (sym same.sinks) h.leaves;
}

-- a packet entered, and each task ran once
pub enters-so : (w : PassageState) (mid new : RouterState) (device : List ℕ) (p : Packet) (r : Reply) (n : ℕ) → HasEnds w → device ≡ w.source → Answers w.router (call.Arrive device p) mid r
    → Answers mid call.Round new (reply.Worked n) → Enters w.source p w.router new × HasEnds (went w new)
enters-so w mid new device p r n ends at arrives works =
    let here : Answers w.router (call.Arrive w.source p) mid r = subst (λ (d : List ℕ). Answers w.router (call.Arrive d p) mid r) at arrives in
    let so = arrival-so w.router mid w.source p r ends.enters here in
    let after_it = still-ends w mid so.1 ends in (
      record { between = mid; worked = n; arrives = subst (λ (q : Reply). Answers w.router (call.Arrive w.source p) mid q) so.0 here; works = works },
      still-ends (went w mid) new (round-so mid new (reply.Worked n) works) after_it,
    )

-- the sink was asked for a packet
pub asked-so : (w : PassageState) (new : RouterState) (device : List ℕ) (r : Reply) → HasEnds w → device ≡ w.sink → Answers w.router (call.Transmit device) new r
    → ((packet : Option Packet) × (r ≡ reply.Sent packet) × Asked w.sink w.router packet new) × HasEnds (went w new)
asked-so w new device r ends at answers =
    let here : Answers w.router (call.Transmit w.sink) new r = subst (λ (d : List ℕ). Answers w.router (call.Transmit d) new r) at answers in
    let so = transmit-so w.router new w.sink r ends.leaves here in
    ((so.0.0, so.0.1, subst (λ (q : Reply). Answers w.router (call.Transmit w.sink) new q) so.0.1 here), still-ends w new so.1 ends)
