-- A queue counts each packet.
use Rattle.std.proofs.Common.{◌≡◌, ℕ, ◌+◌, ◌-◌, ◌^◌, ◌<◌, ◌≤◌, ◌==◌, List, [], ◌∷◌, ◌++◌, length, false, Some, max, refl, ap, subst, arith, inl, inr, length-append}
use Rattle.std.proofs.lemmas.Bool.{cases_Bool, eqb-false}
use Rattle.click_packet.specs.Packet.{Packet}
use Rattle.click_classes.specs.PacketList.{PacketList}
use Rattle.click_classes.specs.Acts.{act, queued, front_queued, front_dropped, up_by}
use Rattle.click_classes.specs.Queues.{Queued, queue_of}
use Rattle.click_classes.specs.declared.state.State.{State}
use Rattle.click_classes.specs.declared.state.State.TheVariants as state

abbrev pub kept_by : PacketList → ℕ → ℕ → Queued
kept_by q drops highest = record { list = q; drops = drops; highest = highest }

-- what a push keeps of a queue, which is in state s afterwards
abbrev pub Keeps : Queued → State → Type 0
Keeps old s = (new : Queued) × (queue_of s ≡ Some new)
    × (length new.list.packets + new.drops ≡ length old.list.packets + old.drops + 1)
    × (new.list.capacity ≡ old.list.capacity)
    × (length old.list.packets ≤ old.list.capacity → length new.list.packets ≤ new.list.capacity)
    × (length old.list.packets ≤ old.highest → length new.list.packets ≤ new.highest)

pub counted : (drops : ℕ) → drops < 2 ^ 64 - 1 → up_by drops 1 ≡ drops + 1
counted drops h = omega arith

-- the packet is appended
last : (q : PacketList) (drops highest : ℕ) (p : Packet) → (length q.packets == q.capacity) ≡ false
    → let new = record q { packets = q.packets ++ p ∷ [] } in
    (length new.packets + drops ≡ length q.packets + drops + 1)
    × (new.capacity ≡ q.capacity)
    × (length q.packets ≤ q.capacity → length new.packets ≤ new.capacity)
    × (length q.packets ≤ highest → length new.packets ≤ max (length q.packets + 1) highest)
last q drops highest p t =
    let other = eqb-false (length q.packets) q.capacity t in
    let len = length-append q.packets (p ∷ []) in
    (omega (arith, len), refl, (λ h. omega (arith, len, other)), (λ h. omega (arith, len)))

queued-keeps : (q : PacketList) (drops highest : ℕ) (p : Packet) → drops < 2 ^ 64 - 1 → Keeps (kept_by q drops highest) (queued q drops highest p).state
queued-keeps q drops highest p h = elim (cases_Bool (length q.packets == q.capacity)) [
  | inl t ↦ rw t (kept_by q (up_by drops 1) highest, refl, omega (arith, counted drops h), refl, (λ k. k), (λ k. k))
  | inr t ↦
      let facts = last q drops highest p t in
      rw t (kept_by (record q { packets = q.packets ++ p ∷ [] }) drops (max (length q.packets + 1) highest), refl, facts.0, facts.1, facts.2, facts.3)
]

front_dropped-keeps : (ps : List Packet) (q : PacketList) (drops highest : ℕ) (p : Packet) → ps ≡ q.packets → drops < 2 ^ 64 - 1
    → Keeps (kept_by q drops highest) (front_dropped ps q drops highest p).state
front_dropped-keeps [] q drops highest p e h = (kept_by q (up_by drops 1) highest, refl, omega (arith, counted drops h), refl, (λ k. k), (λ k. k))
front_dropped-keeps (first ∷ rest) q drops highest p e h =
    let len = length-append rest (p ∷ []) in
    let old = ap length e in (
      kept_by (record q { packets = rest ++ p ∷ [] }) (up_by drops 1) highest,
      refl,
      omega (arith, counted drops h, len, old),
      refl,
      (λ k. omega (arith, len, old)),
      (λ k. omega (arith, len, old)),
    )

front_queued-keeps : (q : PacketList) (drops highest : ℕ) (p : Packet) → drops < 2 ^ 64 - 1 → Keeps (kept_by q drops highest) (front_queued q drops highest p).state
front_queued-keeps q drops highest p h = elim (cases_Bool (length q.packets == q.capacity)) [
  | inl t ↦ rw t (front_dropped-keeps q.packets q drops highest p refl h)
  | inr t ↦
      let facts = last q drops highest p t in
      rw t (kept_by (record q { packets = q.packets ++ p ∷ [] }) drops (max (length q.packets + 1) highest), refl, facts.0, facts.1, facts.2, facts.3)
]

pub queue-keeps : (outputs input : ℕ) (s : State) (p : Packet) (old : Queued) → queue_of s ≡ Some old → old.drops < 2 ^ 64 - 1
    → Keeps old (act outputs s input p).state
unfolding act
queue-keeps outputs input (state.Queue q drops highest) p old e h =
    let is : kept_by q drops highest ≡ old = cc in
    let h' : drops < 2 ^ 64 - 1 = omega (arith, ap (λ (o : Queued). o.drops) is) in
    subst (λ (o : Queued). Keeps o (queued q drops highest p).state) is (queued-keeps q drops highest p h')
queue-keeps outputs input (state.FrontDropQueue q drops highest) p old e h =
    let is : kept_by q drops highest ≡ old = cc in
    let h' : drops < 2 ^ 64 - 1 = omega (arith, ap (λ (o : Queued). o.drops) is) in
    subst (λ (o : Queued). Keeps o (front_queued q drops highest p).state) is (front_queued-keeps q drops highest p h')
queue-keeps outputs input _ p old e h = cc
