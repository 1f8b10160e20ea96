-- Lemmas about polls and transmits of a device, by whether it has a source or a sink.
use Rattle.std.proofs.Common.{◌≡◌, ◌↔◌, ℕ, Bool, true, false, true≢false, IsTrue, List, length, Option, Some, None, IsSome, sym, refl, subst}
use Rattle.click_packet.specs.Packet.{Packet}
use Rattle.click_engine.specs.Rounds.{source_of, sink_of, transmit, transmitted}
use Rattle.click_router.specs.State.{RouterState}
use Rattle.click_router.specs.One.{entered, sent, arrivals, holds_memory, sends_packet}
use Rattle.click_router.specs.declared.call.Reply.{Reply}
use Rattle.click_router.specs.declared.call.Reply.TheVariants as reply

-- the reply to a poll, by the source of its device
abbrev arrived : RouterState → List ℕ → List Packet → Option ℕ → RouterState × Reply
arrived s device taken o = elim o [
  | None ↦ (s, reply.NoDevice)
  | Some at ↦ (record s { plant = arrivals s.plant device taken }, reply.Entered (length taken))
]

not_none : (n : ℕ) → reply.Entered n ≡ reply.NoDevice → ⊥
not_none n e = cc

none_there : IsSome {T = ℕ} None → ⊥
none_there e = true≢false (sym e)

by_source : (s : RouterState) (device : List ℕ) (taken : List Packet) (o : Option ℕ) (b : Bool) → (IsTrue b ↔ IsSome o) → (b ≡ false) ↔ ((arrived s device taken o).1 ≡ reply.NoDevice)
by_source s device taken None true h = absurd (none_there (h.0 refl))
by_source s device taken None false h = ((λ _. refl), (λ _. refl))
by_source s device taken (Some at) true h = ((λ e. absurd (true≢false e)), (λ e. absurd (not_none (length taken) e)))
by_source s device taken (Some at) false h = absurd (true≢false (sym (h.1 refl)))

-- a poll has the reply NoDevice if and only if the device has no source
pub no_device : (s t : RouterState) (device : List ℕ) (taken : List Packet) (r : Reply) (b : Bool) → (IsTrue b ↔ IsSome (source_of s.plant device)) → entered s device taken ≡ (t, r) → (b ≡ false) ↔ (r ≡ reply.NoDevice)
no_device s t device taken r b h is = subst (λ (p : RouterState × Reply). (b ≡ false) ↔ (p.1 ≡ reply.NoDevice)) is (by_source s device taken (source_of s.plant device) b h)

light_at : (s : RouterState) (device : List ℕ) (taken : List Packet) (o : Option ℕ) → (holds_memory (arrived s device taken o).1 ≡ false) × (sends_packet (arrived s device taken o).1 ≡ false)
light_at s device taken (Some at) = (refl, refl)
light_at s device taken None = (refl, refl)

-- the reply to a poll holds no memory and no packet
pub poll_light : (s t : RouterState) (device : List ℕ) (taken : List Packet) (r : Reply) → entered s device taken ≡ (t, r) → (holds_memory r ≡ false) × (sends_packet r ≡ false)
poll_light s t device taken r is =
    subst (λ (p : RouterState × Reply). (holds_memory p.1 ≡ false) × (sends_packet p.1 ≡ false)) is (light_at s device taken (source_of s.plant device))

-- the reply to a transmit, by the sink of its device
abbrev taken_at : RouterState → List ℕ → Option ℕ → RouterState × Reply
taken_at s device o = elim o [
  | None ↦ (s, reply.NoDevice)
  | Some at ↦ (record s { plant = transmit s.plant device }, reply.Sent (transmitted s.plant device))
]

not_sent : (p : Option Packet) → reply.Sent p ≡ reply.NoDevice → ⊥
not_sent p e = cc

by_sink : (s : RouterState) (device : List ℕ) (o : Option ℕ) (b : Bool) → (IsTrue b ↔ IsSome o) → (b ≡ false) ↔ ((taken_at s device o).1 ≡ reply.NoDevice)
by_sink s device None true h = absurd (none_there (h.0 refl))
by_sink s device None false h = ((λ _. refl), (λ _. refl))
by_sink s device (Some at) true h = ((λ e. absurd (true≢false e)), (λ e. absurd (not_sent (transmitted s.plant device) e)))
by_sink s device (Some at) false h = absurd (true≢false (sym (h.1 refl)))

-- a transmit has the reply NoDevice if and only if the device has no sink
pub no_sink : (s t : RouterState) (device : List ℕ) (r : Reply) (b : Bool) → (IsTrue b ↔ IsSome (sink_of s.plant device)) → sent s device ≡ (t, r) → (b ≡ false) ↔ (r ≡ reply.NoDevice)
no_sink s t device r b h is = subst (λ (p : RouterState × Reply). (b ≡ false) ↔ (p.1 ≡ reply.NoDevice)) is (by_sink s device (sink_of s.plant device) b h)
