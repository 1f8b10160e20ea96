-- The packet that a queue drops.
use Rattle.std.proofs.Common.{◌≡◌, ℕ, ◌+◌, ◌-◌, ◌^◌, ◌<◌, List, [], ◌∷◌, ◌++◌, length, max, ◌==◌, false, Some, refl, sym, ap, ◌∙◌, subst, arith}
use Rattle.std.proofs.lemmas.Bool.{eq-eqb, ne_eqb}
use Rattle.click_packet.specs.Packet.{Packet}
use Rattle.click_classes.specs.Acts.{act, stored, Stored}
use Rattle.click_classes.specs.PacketList.{PacketList}
use Rattle.click_classes.specs.Queues.{Queued, queue_of}
use Rattle.click_classes.specs.declared.state.State.{State}
use Rattle.click_classes.specs.declared.state.State.TheVariants as state
use Rattle.click_classes.proofs.OfQueues.QueueCounts.{kept_by, counted}

abbrev with_last : Queued → Packet → Queued
with_last old p = record old { list = record old.list { packets = old.list.packets ++ p ∷ [] }; highest = max (length old.list.packets + 1) old.highest }

has_room : (q : PacketList) → length q.packets < q.capacity → (length q.packets == q.capacity) ≡ false
has_room q h = ne_eqb (length q.packets) q.capacity (λ e. omega (arith, e))

has_room_as : (q : PacketList) (drops highest : ℕ) (old : Queued) → kept_by q drops highest ≡ old → length old.list.packets < old.list.capacity
    → (length q.packets == q.capacity) ≡ false
has_room_as q drops highest old is h = has_room q (subst (λ (o : Queued). length o.list.packets < o.list.capacity) (sym is) h)

pub room : (outputs input : ℕ) (s : State) (p : Packet) (old : Queued) → queue_of s ≡ Some old → length old.list.packets < old.list.capacity
    → queue_of (act outputs s input p).state ≡ Some (with_last old p)
unfolding act
room outputs input (state.Queue q drops highest) p old e h =
    let is : kept_by q drops highest ≡ old = cc in
    rw (has_room_as q drops highest old is h) (ap (λ o. Some (with_last o p)) is)
room outputs input (state.FrontDropQueue q drops highest) p old e h =
    let is : kept_by q drops highest ≡ old = cc in
    rw (has_room_as q drops highest old is h) (ap (λ o. Some (with_last o p)) is)
room outputs input _ p old e h = cc

pub full : (outputs input : ℕ) (q : PacketList) (drops highest : ℕ) (p : Packet) → length q.packets ≡ q.capacity → drops < 2 ^ 64 - 1
    → (act outputs (state.Queue q drops highest) input p).state ≡ state.Queue q (drops + 1) highest
unfolding act
full outputs input q drops highest p e h = rw (eq-eqb (length q.packets) q.capacity e) (ap (λ n. state.Queue q n highest) (counted drops h))

pub full_front : (outputs input : ℕ) (q : PacketList) (drops highest : ℕ) (p first : Packet) (rest : List Packet) → length q.packets ≡ q.capacity
    → q.packets ≡ first ∷ rest → drops < 2 ^ 64 - 1
    → (act outputs (state.FrontDropQueue q drops highest) input p).state ≡ state.FrontDropQueue (record q { packets = rest ++ p ∷ [] }) (drops + 1) highest
unfolding act
full_front outputs input q drops highest p first rest e is h =
    rw (eq-eqb (length q.packets) q.capacity e, is) (ap (λ n. state.FrontDropQueue (record q { packets = rest ++ p ∷ [] }) n highest) (counted drops h))

abbrev Pulls : State → Queued → Packet → List Packet → Type 0
Pulls s old first rest = (e : Stored) × (stored s ≡ Some e) × (e.packet ≡ first)
    × (queue_of e.state ≡ Some (record old { list = record old.list { packets = rest } }))

abbrev with_rest : Queued → List Packet → Queued
with_rest old rest = record old { list = record old.list { packets = rest } }

pub pulled : (s : State) (old : Queued) (first : Packet) (rest : List Packet) → queue_of s ≡ Some old → old.list.packets ≡ first ∷ rest → Pulls s old first rest
unfolding stored
pulled (state.Queue q drops highest) old first rest e is =
    let same : kept_by q drops highest ≡ old = cc in
    let ps : q.packets ≡ first ∷ rest = ap (λ (o : Queued). o.list.packets) same ∙ is in
    rw ps (_, refl, refl, ap (λ o. Some (with_rest o rest)) same)
pulled (state.FrontDropQueue q drops highest) old first rest e is =
    let same : kept_by q drops highest ≡ old = cc in
    let ps : q.packets ≡ first ∷ rest = ap (λ (o : Queued). o.list.packets) same ∙ is in
    rw ps (_, refl, refl, ap (λ o. Some (with_rest o rest)) same)
pulled _ old first rest e is = cc
