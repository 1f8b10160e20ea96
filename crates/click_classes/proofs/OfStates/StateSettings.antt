-- Packets keep the settings of an element.
use Rattle.std.proofs.Common.{◌≡◌, ℕ, ◌+◌, List, [], ◌∷◌, length, ◌==◌, nat_le, Bool, true, false, Option, Some, None, if◌then◌else◌, refl, sym, ap, ◌∙◌}
use Rattle.std.proofs.lemmas.Bool.{cond_both}
use Rattle.click_packet.specs.Header.{ttl}
use Rattle.click_packet.specs.Packet.{Packet}
use Rattle.click_patterns.specs.RuleLists.{decided}
use Rattle.click_classes.specs.Acts.{output_of, made_or, counting, sent_to, using, resolved_by, resolved_at, resolved, forwarded, taken_in, has_header_room, let_go, knowing, learnt_at, learnt_of, learnt, act, pass, gives, stored, emission, is_active, front_dropped, switched, routed, classified, aged, first_of, fresh_packet, up_by, PassEffect, PushEffect, Stored}
use Rattle.std.specs.Prelude.{◌&&◌, nat_lt, slice_get}
use Rattle.click_gateway.specs.Addresses.{is_host, ethernet_of_group}
use Rattle.click_gateway.specs.Arp.{Sender, sender}
use Rattle.click_classes.specs.Gateway.{arp_reply, error_report, ping_reply, frame_mirror, datagram_mirror, checksum_set, header_stripped, udp_encapsulated}
use Rattle.click_classes.specs.Neighbours.{Neighbour, place_of}
use Rattle.click_classes.specs.declared.neighbours.Querier.{Querier}
use Rattle.click_classes.specs.declared.packet_effects.Verdict.{Verdict}
use Rattle.click_classes.specs.Routes.{route}
use Rattle.click_classes.specs.PacketList.{PacketList}
use Rattle.click_classes.specs.Settings.{settings}
use Rattle.click_classes.specs.State.{class}
use Rattle.click_classes.specs.declared.state.State.{State}
use Rattle.click_classes.specs.declared.state.State.TheVariants as state
use Rattle.click_classes.specs.declared.values.entry.Entry.{Entry}

-- one of two effects, both of which keep the settings
acts : (s : State) (b : Bool) (x y : PushEffect) → settings x.state ≡ settings s → settings y.state ≡ settings s → settings (if b then x else y).state ≡ settings s
acts s b x y e f = cond_both b x y (λ (r : PushEffect). settings r.state ≡ settings s) (λ t. e) (λ t. f)

passes : (s : State) (b : Bool) (x y : PassEffect) → settings x.state ≡ settings s → settings y.state ≡ settings s → settings (if b then x else y).state ≡ settings s
passes s b x y e f = cond_both b x y (λ (r : PassEffect). settings r.state ≡ settings s) (λ t. e) (λ t. f)

aged-settings : (p : Packet) (hops : Option ℕ) → settings (aged p hops).state ≡ settings state.DecIPTTL
aged-settings p None = refl
aged-settings p (Some hops) = passes state.DecIPTTL (nat_le hops 1) _ _ refl refl

made-settings : (s : State) (o : Option Packet) (p : Packet) (f : Verdict) → settings (made_or s o p f).state ≡ settings s
made-settings s None p f = refl
made-settings s (Some made) p f = refl

pub pass-settings : (s : State) (p : Packet) → settings (pass s p).state ≡ settings s
unfolding pass
pass-settings state.DecIPTTL p = aged-settings p (ttl p.bytes)
pass-settings (state.EtherEncap header) p = passes (state.EtherEncap header) (nat_le (length header + length p.bytes) 1600) _ _ refl refl
pass-settings (state.ARPResponder stations) p = made-settings (state.ARPResponder stations) (arp_reply stations p) p _
pass-settings (state.ICMPError r) p = made-settings (state.ICMPError r) (error_report r p) p _
pass-settings state.ICMPPingResponder p = made-settings state.ICMPPingResponder (ping_reply p) p _
pass-settings state.EtherMirror p = made-settings state.EtherMirror (frame_mirror p) p _
pass-settings state.IPMirror p = made-settings state.IPMirror (datagram_mirror p) p _
pass-settings state.SetIPChecksum p = made-settings state.SetIPChecksum (checksum_set p) p _
pass-settings state.StripIPHeader p = made-settings state.StripIPHeader (header_stripped p) p _
pass-settings (state.UDPIPEncap t) p = made-settings (state.UDPIPEncap t) (udp_encapsulated t p) p _
pass-settings _ p = refl

front_dropped-settings : (ps : List Packet) (q : PacketList) (drops highest : ℕ) (p : Packet)
    → settings (front_dropped ps q drops highest p).state ≡ settings (state.FrontDropQueue q drops highest)
front_dropped-settings [] q drops highest p = refl
front_dropped-settings (first ∷ rest) q drops highest p = refl

switched-settings : (s : State) (o : Option ℕ) (p : Packet) → settings (switched s o p).state ≡ settings s
switched-settings s None p = refl
switched-settings s (Some output) p = refl

routed-settings : (s : State) (o : Option Entry) (p : Packet) → settings (routed s o p).state ≡ settings s
routed-settings s None p = refl
routed-settings s (Some e) p = refl

-- whatever a querier does, it keeps its own addresses
module _ (q : Querier) where
  abbrev Kept : PushEffect → Type 0
  Kept r = settings r.state ≡ settings (state.ARPQuerier q)

  sent-settings : (t : Querier) (p : Packet) (to : List ℕ) → settings (state.ARPQuerier t) ≡ settings (state.ARPQuerier q) → Kept (sent_to t p to)
  sent-settings t p to e = acts (state.ARPQuerier q) (has_header_room p) _ _ e e

  by-settings : (outputs : ℕ) (p : Packet) (place : ℕ) (n : Neighbour) (o : Option (List ℕ)) → Kept (resolved_by outputs q p place n o)
  by-settings outputs p place n None = refl
  by-settings outputs p place n (Some to) = sent-settings (using q place n) p to refl

  at-settings : (outputs : ℕ) (p : Packet) (place : ℕ) (o : Option Neighbour) → Kept (resolved_at outputs q p place o)
  at-settings outputs p place None = refl
  at-settings outputs p place (Some n) = by-settings outputs p place n n.ether

  resolved-settings : (outputs : ℕ) (p : Packet) (o : Option ℕ) → Kept (resolved outputs q p o)
  resolved-settings outputs p None = acts (state.ARPQuerier q) (is_host p.destination && nat_lt (length q.table) 256) _ _ refl refl
  resolved-settings outputs p (Some place) = at-settings outputs p place (slice_get q.table place)

  forwarded-settings : (outputs : ℕ) (p : Packet) (o : Option (List ℕ)) → Kept (forwarded outputs q p o)
  forwarded-settings outputs p None = resolved-settings outputs p (place_of q.table p.destination)
  forwarded-settings outputs p (Some group) = sent-settings q p group refl

  taken_in-settings : (outputs : ℕ) (p : Packet) → Kept (taken_in outputs q p)
  taken_in-settings outputs p = acts (state.ARPQuerier q) (has_header_room p) _ _ (forwarded-settings outputs p (ethernet_of_group p.destination)) refl

  gone-settings : (t : Querier) (p : Packet) (to : List ℕ) (o : Option Packet) → settings (state.ARPQuerier t) ≡ settings (state.ARPQuerier q) → Kept (let_go t p to o)
  gone-settings t p to None e = e
  gone-settings t p to (Some waited) e = sent-settings t waited to e

  learnt_at-settings : (p : Packet) (who : Sender) (place : ℕ) (o : Option Neighbour) → Kept (learnt_at q p who place o)
  learnt_at-settings p who place None = refl
  learnt_at-settings p who place (Some n) = gone-settings (knowing q place n who.ether) p who.ether n.waiting refl

  learnt_of-settings : (p : Packet) (who : Sender) (o : Option ℕ) → Kept (learnt_of q p who o)
  learnt_of-settings p who None = refl
  learnt_of-settings p who (Some place) = learnt_at-settings p who place (slice_get q.table place)

  learnt-settings : (p : Packet) (o : Option Sender) → Kept (learnt q p o)
  learnt-settings p None = refl
  learnt-settings p (Some who) = learnt_of-settings p who (place_of q.table who.ip)

pub act-settings : (outputs input : ℕ) (s : State) (p : Packet) → settings (act outputs s input p).state ≡ settings s
unfolding act
act-settings outputs input (state.Queue q drops highest) p = acts (state.Queue q drops highest) (length q.packets == q.capacity) _ _ refl refl
act-settings outputs input (state.FrontDropQueue q drops highest) p =
    acts (state.FrontDropQueue q drops highest) (length q.packets == q.capacity) _ _ (front_dropped-settings q.packets q drops highest p) refl
act-settings outputs input (state.Switch output) p = switched-settings (state.Switch output) output p
act-settings outputs input (state.RoundRobinSwitch next) p = refl
act-settings outputs input (state.Tee n) p = refl
act-settings outputs input (state.Suppressor active) p = acts (state.Suppressor active) (is_active active input) _ _ refl refl
act-settings outputs input (state.Classifier patterns) p = switched-settings (state.Classifier patterns) (classified patterns p.bytes) p
act-settings outputs input (state.StaticIPLookup entries) p = routed-settings (state.StaticIPLookup entries) (route entries p.destination) p
act-settings outputs input (state.IPFilter rules) p = switched-settings (state.IPFilter rules) (output_of (decided rules p.bytes)) p
act-settings outputs input (state.IPClassifier rules) p = switched-settings (state.IPClassifier rules) (output_of (decided rules p.bytes)) p
act-settings outputs input (state.ARPQuerier q) p =
    acts (state.ARPQuerier q) (input == 0) _ _ (taken_in-settings (counting q) outputs p) (learnt-settings q p (sender p.bytes))
act-settings outputs input s p = pass-settings s p

pub gives-settings : (inputs outputs input : ℕ) (s : State) (p : Packet) → settings (gives inputs outputs s input p).state ≡ settings s
unfolding gives
gives-settings inputs outputs input (state.PullSwitch from) p = refl
gives-settings inputs outputs input (state.RoundRobinSched next) p = refl
gives-settings inputs outputs input state.PrioSched p = refl
gives-settings inputs outputs input (state.Suppressor active) p = refl
gives-settings inputs outputs input (state.PullTee n) p = refl
gives-settings inputs outputs input s p = pass-settings s p

first_of-settings : (s : State) (ps : List Packet) (with_rest : List Packet → State) → ((rest : List Packet) → settings (with_rest rest) ≡ settings s)
    → (e : Stored) → first_of ps with_rest ≡ Some e → settings e.state ≡ settings s
first_of-settings s [] with_rest h e is = cc
first_of-settings s (p ∷ rest) with_rest h e is =
    let same : ◌≡◌ {A = Stored} (record { packet = p; state = with_rest rest }) e = cc in
    ap (λ (x : Stored). settings x.state) (sym same) ∙ h rest

pub stored-settings : (s : State) (e : Stored) → stored s ≡ Some e → settings e.state ≡ settings s
unfolding stored
stored-settings (state.Queue q drops highest) e is = first_of-settings (state.Queue q drops highest) q.packets _ (λ rest. refl) e is
stored-settings (state.FrontDropQueue q drops highest) e is = first_of-settings (state.FrontDropQueue q drops highest) q.packets _ (λ rest. refl) e is
stored-settings _ e is = cc

pub one_of : (o : Option Stored) (X : Stored → Type 0) → ((x : Stored) → o ≡ Some x → X x) → (b : Bool) (e : Stored) → (if b then o else None) ≡ Some e → X e
one_of o X h true e is = h e is
one_of o X h false e is = cc

pub emission-settings : (s : State) (e : Stored) → emission s ≡ Some e → settings e.state ≡ settings s
unfolding emission
emission-settings (state.InfiniteSource bytes limit burst active count) e is =
    let next : Stored = record { packet = fresh_packet bytes; state = state.InfiniteSource bytes limit burst active (up_by count 1) } in
    one_of (Some next) (λ (x : Stored). settings x.state ≡ state.InfiniteSource bytes limit burst active 0)
    (λ x same. let is_next : next ≡ x = cc in ap (λ (y : Stored). settings y.state) (sym is_next)) _ e is
emission-settings _ e is = cc

pub class-settings : (s : State) → class (settings s) ≡ class s
class-settings (state.Queue q drops highest) = refl
class-settings _ = refl
