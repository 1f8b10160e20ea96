-- Queues stay sound.
use Rattle.std.proofs.Common.{◌≡◌, ℕ, ◌+◌, ◌≤◌, List, [], ◌∷◌, ◌++◌, length, max, nat_le, ◌==◌, Bool, false, Option, Some, None, if◌then◌else◌, refl, ap, subst, arith, length-append}
use Rattle.std.proofs.lemmas.Bool.{cond_both, eqb-false}
use Rattle.click_packet.specs.Header.{ttl}
use Rattle.click_packet.specs.Packet.{Packet}
use Rattle.click_patterns.specs.RuleLists.{decided}
use Rattle.click_classes.specs.Acts.{output_of, made_or, act, pass, gives, stored, emission, is_active, queued, front_queued, front_dropped, switched, routed, classified, aged, first_of, fresh_packet, up_by, PassEffect, PushEffect, Stored}
use Rattle.click_classes.specs.Gateway.{arp_reply, error_report, ping_reply, frame_mirror, datagram_mirror, checksum_set, header_stripped, udp_encapsulated}
use Rattle.click_classes.specs.Settings.{settings}
use Rattle.click_classes.specs.declared.neighbours.Querier.{Querier}
use Rattle.click_classes.specs.declared.packet_effects.Verdict.{Verdict}
use Rattle.click_classes.specs.Routes.{route}
use Rattle.click_classes.specs.PacketList.{PacketList}
use Rattle.click_classes.specs.Queues.{IsSound}
use Rattle.click_classes.specs.declared.state.State.{State}
use Rattle.click_classes.specs.declared.state.State.TheVariants as state
use Rattle.click_classes.specs.declared.values.entry.Entry.{Entry}
use Rattle.click_classes.proofs.OfStates.StateSettings.{one_of, act-settings}

-- one of two effects, both of which are sound
acts : (b : Bool) (x y : PushEffect) → IsSound x.state → IsSound y.state → IsSound (if b then x else y).state
acts b x y h k = cond_both b x y (λ (r : PushEffect). IsSound r.state) (λ t. h) (λ t. k)

passes : (b : Bool) (x y : PassEffect) → IsSound x.state → IsSound y.state → IsSound (if b then x else y).state
passes b x y h k = cond_both b x y (λ (r : PassEffect). IsSound r.state) (λ t. h) (λ t. k)

aged-sound : (p : Packet) (hops : Option ℕ) → IsSound (aged p hops).state
aged-sound p None = tt
aged-sound p (Some hops) = passes (nat_le hops 1) _ _ tt tt

made-sound : (s : State) (o : Option Packet) (p : Packet) (f : Verdict) → IsSound s → IsSound (made_or s o p f).state
made-sound s None p f h = h
made-sound s (Some made) p f h = h

pub pass-sound : (s : State) (p : Packet) → IsSound s → IsSound (pass s p).state
unfolding pass
pass-sound state.DecIPTTL p h = aged-sound p (ttl p.bytes)
pass-sound (state.EtherEncap header) p h = passes (nat_le (length header + length p.bytes) 1600) _ _ tt tt
pass-sound (state.ARPResponder stations) p h = made-sound (state.ARPResponder stations) (arp_reply stations p) p _ tt
pass-sound (state.ICMPError r) p h = made-sound (state.ICMPError r) (error_report r p) p _ tt
pass-sound state.ICMPPingResponder p h = made-sound state.ICMPPingResponder (ping_reply p) p _ tt
pass-sound state.EtherMirror p h = made-sound state.EtherMirror (frame_mirror p) p _ tt
pass-sound state.IPMirror p h = made-sound state.IPMirror (datagram_mirror p) p _ tt
pass-sound state.SetIPChecksum p h = made-sound state.SetIPChecksum (checksum_set p) p _ tt
pass-sound state.StripIPHeader p h = made-sound state.StripIPHeader (header_stripped p) p _ tt
pass-sound (state.UDPIPEncap t) p h = made-sound (state.UDPIPEncap t) (udp_encapsulated t p) p _ tt
pass-sound _ p h = h

-- the packet is appended if there is room
last : (q : PacketList) (highest : ℕ) (p : Packet) → (length q.packets == q.capacity) ≡ false → (length q.packets ≤ q.capacity) × (length q.packets ≤ highest)
    → (length (q.packets ++ p ∷ []) ≤ q.capacity) × (length (q.packets ++ p ∷ []) ≤ max (length q.packets + 1) highest)
last q highest p t h =
    let other = eqb-false (length q.packets) q.capacity t in
    let len = length-append q.packets (p ∷ []) in
    (omega (arith, len, other, h.0), omega (arith, len))

queued-sound : (q : PacketList) (drops highest : ℕ) (p : Packet) → IsSound (state.Queue q drops highest) → IsSound (queued q drops highest p).state
queued-sound q drops highest p h =
    cond_both (length q.packets == q.capacity) _ _ (λ (r : PushEffect). IsSound r.state) (λ t. h) (λ t. last q highest p t h)

front_dropped-sound : (ps : List Packet) (q : PacketList) (drops highest : ℕ) (p : Packet) → ps ≡ q.packets → IsSound (state.FrontDropQueue q drops highest)
    → IsSound (front_dropped ps q drops highest p).state
front_dropped-sound [] q drops highest p e h = h
front_dropped-sound (first ∷ rest) q drops highest p e h =
    let len = length-append rest (p ∷ []) in
    let old = ap length e in
    (omega (arith, len, old, h.0), omega (arith, len, old, h.1))

front_queued-sound : (q : PacketList) (drops highest : ℕ) (p : Packet) → IsSound (state.FrontDropQueue q drops highest) → IsSound (front_queued q drops highest p).state
front_queued-sound q drops highest p h =
    cond_both (length q.packets == q.capacity) _ _ (λ (r : PushEffect). IsSound r.state) (λ t. front_dropped-sound q.packets q drops highest p refl h)
    (λ t. last q highest p t h)

switched-sound : (s : State) (o : Option ℕ) (p : Packet) → IsSound s → IsSound (switched s o p).state
switched-sound s None p h = h
switched-sound s (Some output) p h = h

routed-sound : (s : State) (o : Option Entry) (p : Packet) → IsSound s → IsSound (routed s o p).state
routed-sound s None p h = h
routed-sound s (Some e) p h = h

-- a querier has no queue
no-queue : (s : State) (q : Querier) → settings s ≡ settings (state.ARPQuerier q) → IsSound s
no-queue (state.Queue l d h) q e = cc
no-queue (state.FrontDropQueue l d h) q e = cc
no-queue _ q e = tt

pub act-sound : (outputs input : ℕ) (s : State) (p : Packet) → IsSound s → IsSound (act outputs s input p).state
unfolding act
act-sound outputs input (state.Queue q drops highest) p h = queued-sound q drops highest p h
act-sound outputs input (state.FrontDropQueue q drops highest) p h = front_queued-sound q drops highest p h
act-sound outputs input (state.Switch output) p h = switched-sound (state.Switch output) output p tt
act-sound outputs input (state.RoundRobinSwitch next) p h = tt
act-sound outputs input (state.Tee n) p h = tt
act-sound outputs input (state.Suppressor active) p h = acts (is_active active input) _ _ tt tt
act-sound outputs input (state.Classifier patterns) p h = switched-sound (state.Classifier patterns) (classified patterns p.bytes) p tt
act-sound outputs input (state.StaticIPLookup entries) p h = routed-sound (state.StaticIPLookup entries) (route entries p.destination) p tt
act-sound outputs input (state.IPFilter rules) p h = switched-sound (state.IPFilter rules) (output_of (decided rules p.bytes)) p tt
act-sound outputs input (state.IPClassifier rules) p h = switched-sound (state.IPClassifier rules) (output_of (decided rules p.bytes)) p tt
act-sound outputs input (state.ARPQuerier q) p h = no-queue (act outputs (state.ARPQuerier q) input p).state q (act-settings outputs input (state.ARPQuerier q) p)
act-sound outputs input s p h = pass-sound s p h

pub gives-sound : (inputs outputs input : ℕ) (s : State) (p : Packet) → IsSound s → IsSound (gives inputs outputs s input p).state
unfolding gives
gives-sound inputs outputs input (state.PullSwitch from) p h = tt
gives-sound inputs outputs input (state.RoundRobinSched next) p h = tt
gives-sound inputs outputs input state.PrioSched p h = tt
gives-sound inputs outputs input (state.Suppressor active) p h = tt
gives-sound inputs outputs input (state.PullTee n) p h = tt
gives-sound inputs outputs input s p h = pass-sound s p h

first_of-sound : (ps : List Packet) (with_rest : List Packet → State) → ((p : Packet) (rest : List Packet) → ps ≡ p ∷ rest → IsSound (with_rest rest))
    → (e : Stored) → first_of ps with_rest ≡ Some e → IsSound e.state
first_of-sound [] with_rest h e is = cc
first_of-sound (p ∷ rest) with_rest h e is =
    let same : ◌≡◌ {A = Stored} (record { packet = p; state = with_rest rest }) e = cc in
    subst (λ (x : Stored). IsSound x.state) same (h p rest refl)

fewer : (q : PacketList) (highest : ℕ) (p : Packet) (rest : List Packet) → q.packets ≡ p ∷ rest → (length q.packets ≤ q.capacity) × (length q.packets ≤ highest)
    → (length rest ≤ q.capacity) × (length rest ≤ highest)
fewer q highest p rest e h = let old = ap length e in (omega (arith, old, h.0), omega (arith, old, h.1))

pub stored-sound : (s : State) (e : Stored) → stored s ≡ Some e → IsSound s → IsSound e.state
unfolding stored
stored-sound (state.Queue q drops highest) e is h = first_of-sound q.packets _ (λ p rest same. fewer q highest p rest same h) e is
stored-sound (state.FrontDropQueue q drops highest) e is h = first_of-sound q.packets _ (λ p rest same. fewer q highest p rest same h) e is
stored-sound _ e is h = cc

pub emission-sound : (s : State) (e : Stored) → emission s ≡ Some e → IsSound s → IsSound e.state
unfolding emission
emission-sound (state.InfiniteSource bytes limit burst active count) e is h =
    let next : Stored = record { packet = fresh_packet bytes; state = state.InfiniteSource bytes limit burst active (up_by count 1) } in
    one_of (Some next) (λ (x : Stored). IsSound x.state)
    (λ x same. let is_next : next ≡ x = cc in subst (λ (y : Stored). IsSound y.state) is_next tt) _ e is
emission-sound _ e is h = cc
