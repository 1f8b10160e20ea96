-- The ports that an element names exist.
use Rattle.std.proofs.Common.{◌≡◌, ℕ, ◌+◌, ◌<◌, ◌≤◌, List, [], ◌∷◌, length, take, ◌==◌, nat_lt, Bool, true, false, Option, Some, None, if◌then◌else◌, min, max, refl, sym, ap, ◌∙◌, arith, inl, inr}
use Rattle.std.specs.Prelude.{position, slice_get, ◌&&◌}
use Rattle.click_gateway.specs.Addresses.{is_host, ethernet_of_group}
use Rattle.click_gateway.specs.Arp.{Sender, sender}
use Rattle.click_classes.specs.Neighbours.{Neighbour, place_of}
use Rattle.click_classes.specs.declared.neighbours.Querier.{Querier}
use Rattle.std.proofs.Math.Nat.{le-max_left, le-max_right}
use Rattle.std.proofs.lemmas.Bool.{cases_Bool, cond_both}
use Rattle.std.proofs.lemmas.Bool.Decides.{nat_tests}
use Rattle.std.proofs.lemmas.List.{length-take}
use Rattle.std.proofs.lemmas.List.Quantifiers.{position-Some}
use Rattle.click_packet.specs.Packet.{Packet}
use Rattle.click_classes.specs.Acts.{counting, sent_to, asked, using, resolved_by, resolved_at, resolved, forwarded, taken_in, has_header_room, let_go, knowing, learnt_at, learnt_of, learnt, act, pass, gives, pushed_to, copied_to, is_active, front_dropped, output_of, switched, routed, classified, tries, PushEffect}
use Rattle.click_classes.specs.Ports.{outputs_for}
use Rattle.click_classes.specs.Fitting.{FitsPorts, AreThere, AreAsked}
use Rattle.click_classes.specs.Matches.{matches}
use Rattle.click_classes.specs.PacketList.{PacketList}
use Rattle.click_classes.specs.Routes.{route, covers, longer}
use Rattle.click_classes.specs.declared.packet_effects.Verdict.{Verdict}
use Rattle.click_classes.specs.declared.packet_effects.Verdict.TheVariants as verdict
use Rattle.click_classes.specs.declared.state.State.{State}
use Rattle.click_classes.specs.declared.state.State.TheVariants as state
use Rattle.click_classes.specs.declared.values.entry.Entry.{Entry}
use Rattle.click_classes.specs.declared.values.pattern.Pattern.{Pattern}
use Rattle.click_filter.specs.declared.rule.Action.{Action}
use Rattle.click_filter.specs.declared.rule.Action.TheVariants as action
use Rattle.click_patterns.specs.declared.rules.FlatRule.{FlatRule}
use Rattle.click_patterns.specs.RuleLists.{flat_truth, decided, outputs_of, outputs_for as outputs_needed}

-- ---- by the verdict on the packet

pushed-there : (outputs : ℕ) (f : Verdict) → 1 ≤ outputs → AreThere outputs (pushed_to outputs f)
pushed-there outputs verdict.Forward h c = h
pushed-there outputs verdict.Copied h c = grind (arith, nat_tests)
pushed-there outputs verdict.SideOutput h c = grind (arith, nat_tests)
pushed-there outputs verdict.Dropped h c = omega (arith, c)

copied-there : (outputs : ℕ) (f : Verdict) → AreThere outputs (copied_to outputs f)
copied-there outputs verdict.Forward c = omega (arith, c)
copied-there outputs verdict.Copied c = grind (arith, nat_tests)
copied-there outputs verdict.SideOutput c = grind (arith, nat_tests)
copied-there outputs verdict.Dropped c = omega (arith, c)

-- ---- by the state

either-there : (outputs : ℕ) (b : Bool) (x y : PushEffect) → AreThere outputs x.outputs → AreThere outputs y.outputs → AreThere outputs (if b then x else y).outputs
either-there outputs b x y e f = cond_both b x y (λ (r : PushEffect). AreThere outputs r.outputs) (λ t. e) (λ t. f)

dropped-there : (outputs : ℕ) (ps : List Packet) (q : PacketList) (drops highest : ℕ) (p : Packet) → AreThere outputs (front_dropped ps q drops highest p).outputs
dropped-there outputs [] q drops highest p c = omega (arith, c)
dropped-there outputs (first ∷ rest) q drops highest p c = omega (arith, c)

switched-there : (outputs : ℕ) (s : State) (o : Option ℕ) (p : Packet) → ((k : ℕ) → o ≡ Some k → k + 1 ≤ outputs) → AreThere outputs (switched s o p).outputs
switched-there outputs s None p h c = omega (arith, c)
switched-there outputs s (Some k) p h c = h k refl

classified-below : (ps : List Pattern) (bytes : List ℕ) (k : ℕ) → classified ps bytes ≡ Some k → k + 1 ≤ min (length ps) 65535
classified-below ps bytes k e = go (take 256 ps) refl
  where
    go : (qs : List Pattern) → take 256 ps ≡ qs → k + 1 ≤ min (length ps) 65535
    go [] is = absurd (cc (ap (λ xs. position (λ q. matches q bytes) xs) (sym is) ∙ e))
    go (q ∷ qs) is =
        let inside = (position-Some (λ r. matches r bytes) (take 256 ps) k q e).0 in
        grind (arith, nat_tests, inside, length-take 256 ps)

-- the output of the rule that decides is counted
rule-named : (a : Action) (k : ℕ) → output_of a ≡ Some k → k + 1 ≤ outputs_needed a
rule-named (action.Output n) k h = let same : n ≡ k = cc in omega (arith, same)
rule-named action.Drop k h = absurd (cc h)

rule-output : (rules : List FlatRule) (bytes : List ℕ) (k : ℕ) → output_of (decided rules bytes) ≡ Some k → k + 1 ≤ outputs_of rules
rule-output [] bytes k e = absurd (cc e)
rule-output (r ∷ rs) bytes k e = elim (cases_Bool (flat_truth r.nodes bytes)) [
  | inl t ↦ let h : output_of r.action ≡ Some k = rw t at e in omega (arith, rule-named r.action k h, le-max_left (outputs_needed r.action) (outputs_of rs))
  | inr t ↦
      let h : output_of (decided rs bytes) ≡ Some k = rw t at e in
      omega (arith, rule-output rs bytes k h, le-max_right (outputs_needed r.action) (outputs_of rs))
]

-- the output of the entry that is found, the first or one of the rest, is counted
module _ (f e : Entry) (fs : List Entry) (a : List ℕ) (rest : route fs a ≡ Some e → e.output + 1 ≤ outputs_for fs) where
  abbrev most : ℕ
  most = max (f.output + 1) (outputs_for fs)

  later : route fs a ≡ Some e → e.output + 1 ≤ most
  later k = omega (arith, rest k, le-max_right (f.output + 1) (outputs_for fs))

  here : f ≡ e → e.output + 1 ≤ most
  here k = omega (arith, ap (λ (x : Entry). x.output) k, le-max_left (f.output + 1) (outputs_for fs))

  of_two : (o : Option Entry) → route fs a ≡ o → longer f o ≡ e → e.output + 1 ≤ most
  of_two None r k = here k
  of_two (Some g) r k = by_len (nat_lt f.prefix.len g.prefix.len) refl
    where
      by_len : (b : Bool) → nat_lt f.prefix.len g.prefix.len ≡ b → e.output + 1 ≤ most
      by_len true t = later (r ∙ ap (λ x. Some x) (let s : longer f (Some g) ≡ g = rw t refl in sym s ∙ k))
      by_len false t = here (let s : longer f (Some g) ≡ f = rw t refl in sym s ∙ k)

  by_first : (b : Bool) → covers f.prefix a ≡ b → route (f ∷ fs) a ≡ Some e → e.output + 1 ≤ most
  by_first true t h = let s : Some (longer f (route fs a)) ≡ route (f ∷ fs) a = rw t refl in of_two (route fs a) refl (let u : Some (longer f (route fs a)) ≡ Some e = s ∙ h in cc u)
  by_first false t h = let s : route fs a ≡ route (f ∷ fs) a = rw t refl in later (s ∙ h)

found-output : (es : List Entry) (a : List ℕ) (e : Entry) → route es a ≡ Some e → e.output + 1 ≤ outputs_for es
found-output [] a e h = absurd (cc h)
found-output (f ∷ fs) a e h = by_first f e fs a (λ k. found-output fs a e k) (covers f.prefix a) refl h

routed-there : (outputs : ℕ) (s : State) (o : Option Entry) (p : Packet) → ((e : Entry) → o ≡ Some e → e.output + 1 ≤ outputs) → AreThere outputs (routed s o p).outputs
routed-there outputs s None p h c = omega (arith, c)
routed-there outputs s (Some e) p h c = h e refl

-- a querier's packets go to output 0, or to 1 where it is there
module _ (outputs : ℕ) (some : 1 ≤ outputs) where
  sent-there : (q : Querier) (p : Packet) (to : List ℕ) → AreThere outputs (sent_to q p to).outputs
  sent-there q p to c = either-there outputs (has_header_room p) _ _ (λ c. some) (λ c. omega (arith, c)) c

  asked-there : (q : Querier) (p : Packet) → AreThere outputs (asked outputs q p).outputs
  asked-there q p c = grind (arith, nat_tests)

  by-there : (q : Querier) (p : Packet) (place : ℕ) (n : Neighbour) (o : Option (List ℕ)) → AreThere outputs (resolved_by outputs q p place n o).outputs
  by-there q p place n None c = asked-there q p c
  by-there q p place n (Some to) c = sent-there (using q place n) p to c

  at-there : (q : Querier) (p : Packet) (place : ℕ) (o : Option Neighbour) → AreThere outputs (resolved_at outputs q p place o).outputs
  at-there q p place None c = omega (arith, c)
  at-there q p place (Some n) c = by-there q p place n n.ether c

  resolved-there : (q : Querier) (p : Packet) (o : Option ℕ) → AreThere outputs (resolved outputs q p o).outputs
  resolved-there q p None c = either-there outputs (is_host p.destination && nat_lt (length q.table) 256) _ _ (asked-there q p) (λ c. omega (arith, c)) c
  resolved-there q p (Some place) c = at-there q p place (slice_get q.table place) c

  forwarded-there : (q : Querier) (p : Packet) (o : Option (List ℕ)) → AreThere outputs (forwarded outputs q p o).outputs
  forwarded-there q p None c = resolved-there q p (place_of q.table p.destination) c
  forwarded-there q p (Some group) c = sent-there q p group c

  taken_in-there : (q : Querier) (p : Packet) → AreThere outputs (taken_in outputs q p).outputs
  taken_in-there q p c = either-there outputs (has_header_room p) _ _ (forwarded-there q p (ethernet_of_group p.destination)) (λ c. omega (arith, c)) c

  gone-there : (q : Querier) (p : Packet) (to : List ℕ) (o : Option Packet) → AreThere outputs (let_go q p to o).outputs
  gone-there q p to None c = omega (arith, c)
  gone-there q p to (Some waited) c = sent-there q waited to c

  learnt_at-there : (q : Querier) (p : Packet) (who : Sender) (place : ℕ) (o : Option Neighbour) → AreThere outputs (learnt_at q p who place o).outputs
  learnt_at-there q p who place None c = omega (arith, c)
  learnt_at-there q p who place (Some n) c = gone-there (knowing q place n who.ether) p who.ether n.waiting c

  learnt_of-there : (q : Querier) (p : Packet) (who : Sender) (o : Option ℕ) → AreThere outputs (learnt_of q p who o).outputs
  learnt_of-there q p who None c = omega (arith, c)
  learnt_of-there q p who (Some place) c = learnt_at-there q p who place (slice_get q.table place) c

  learnt-there : (q : Querier) (p : Packet) (o : Option Sender) → AreThere outputs (learnt q p o).outputs
  learnt-there q p None c = omega (arith, c)
  learnt-there q p (Some who) c = learnt_of-there q p who (place_of q.table who.ip) c

pub act-there : (inputs outputs input : ℕ) (s : State) (p : Packet) → FitsPorts inputs outputs s → input < inputs → AreThere outputs (act outputs s input p).outputs
unfolding act pass
act-there inputs outputs input (state.Queue q drops highest) p h i c = either-there outputs (length q.packets == q.capacity) _ _ (λ k. omega (arith, k)) (λ k. omega (arith, k)) c
act-there inputs outputs input (state.FrontDropQueue q drops highest) p h i c =
    either-there outputs (length q.packets == q.capacity) _ _ (dropped-there outputs q.packets q drops highest p) (λ c. omega (arith, c)) c
act-there inputs outputs input (state.Switch None) p h i c = omega (arith, c)
act-there inputs outputs input (state.Switch (Some k)) p h i c = h.outputs_from
act-there inputs outputs input (state.RoundRobinSwitch next) p h i c = omega (arith, h.turn)
act-there inputs outputs input (state.Tee n) p h i c = omega arith
act-there inputs outputs input (state.Suppressor active) p h i c =
    either-there outputs (is_active active input) _ _ (λ c. omega (arith, i, h.equal refl)) (λ c. omega (arith, c)) c
act-there inputs outputs input (state.Classifier ps) p h i c =
    switched-there outputs (state.Classifier ps) (classified ps p.bytes) p (λ k e. omega (arith, h.outputs_from, classified-below ps p.bytes k e)) c
act-there inputs outputs input (state.StaticIPLookup es) p h i c =
    routed-there outputs (state.StaticIPLookup es) (route es p.destination) p (λ e k. omega (arith, h.outputs_from, found-output es p.destination e k)) c
act-there inputs outputs input (state.IPFilter rules) p h i c =
    switched-there outputs (state.IPFilter rules) (output_of (decided rules p.bytes)) p (λ k e. omega (arith, h.outputs_from, rule-output rules p.bytes k e)) c
act-there inputs outputs input (state.IPClassifier rules) p h i c =
    switched-there outputs (state.IPClassifier rules) (output_of (decided rules p.bytes)) p (λ k e. omega (arith, h.outputs_from, rule-output rules p.bytes k e)) c
act-there inputs outputs input state.Unqueue p h i c = pushed-there outputs verdict.Dropped h.outputs_from c
act-there inputs outputs input (state.Counter n b) p h i c = pushed-there outputs verdict.Forward h.outputs_from c
act-there inputs outputs input (state.PullSwitch k) p h i c = pushed-there outputs verdict.Dropped h.outputs_from c
act-there inputs outputs input (state.RoundRobinSched n) p h i c = pushed-there outputs verdict.Dropped h.outputs_from c
act-there inputs outputs input state.PrioSched p h i c = pushed-there outputs verdict.Dropped h.outputs_from c
act-there inputs outputs input (state.PullTee n) p h i c = omega (arith, c)
act-there inputs outputs input state.Idle p h i c = omega (arith, c)
act-there inputs outputs input state.Discard p h i c = omega (arith, c)
act-there inputs outputs input state.Null p h i c = pushed-there outputs verdict.Forward h.outputs_from c
act-there inputs outputs input state.PushNull p h i c = pushed-there outputs verdict.Forward h.outputs_from c
act-there inputs outputs input state.PullNull p h i c = pushed-there outputs verdict.Forward h.outputs_from c
act-there inputs outputs input (state.Paint k) p h i c = pushed-there outputs verdict.Forward h.outputs_from c
act-there inputs outputs input (state.PaintTee k) p h i c = pushed-there outputs (pass (state.PaintTee k) p).verdict h.outputs_from c
act-there inputs outputs input (state.Strip n) p h i c = pushed-there outputs verdict.Forward h.outputs_from c
act-there inputs outputs input (state.CheckLength n) p h i c = pushed-there outputs (pass (state.CheckLength n) p).verdict h.outputs_from c
act-there inputs outputs input (state.GetIPAddress n) p h i c = pushed-there outputs verdict.Forward h.outputs_from c
act-there inputs outputs input (state.CheckIPHeader rs) p h i c = pushed-there outputs (pass (state.CheckIPHeader rs) p).verdict h.outputs_from c
act-there inputs outputs input state.DecIPTTL p h i c = pushed-there outputs (pass state.DecIPTTL p).verdict h.outputs_from c
act-there inputs outputs input (state.EtherEncap header) p h i c = pushed-there outputs (pass (state.EtherEncap header) p).verdict h.outputs_from c
act-there inputs outputs input (state.InfiniteSource b l u a n) p h i c = pushed-there outputs verdict.Dropped h.outputs_from c
act-there inputs outputs input (state.FromDevice d) p h i c = pushed-there outputs verdict.Dropped h.outputs_from c
act-there inputs outputs input (state.ToDevice d) p h i c = omega (arith, c)
act-there inputs outputs input (state.ARPResponder stations) p h i c = pushed-there outputs (pass (state.ARPResponder stations) p).verdict h.outputs_from c
act-there inputs outputs input (state.ICMPError r) p h i c = pushed-there outputs (pass (state.ICMPError r) p).verdict h.outputs_from c
act-there inputs outputs input state.ICMPPingResponder p h i c = pushed-there outputs (pass state.ICMPPingResponder p).verdict h.outputs_from c
act-there inputs outputs input (state.HostEtherFilter ether) p h i c = pushed-there outputs (pass (state.HostEtherFilter ether) p).verdict h.outputs_from c
act-there inputs outputs input state.EtherMirror p h i c = pushed-there outputs (pass state.EtherMirror p).verdict h.outputs_from c
act-there inputs outputs input state.IPMirror p h i c = pushed-there outputs (pass state.IPMirror p).verdict h.outputs_from c
act-there inputs outputs input state.SetIPChecksum p h i c = pushed-there outputs (pass state.SetIPChecksum p).verdict h.outputs_from c
act-there inputs outputs input state.StripIPHeader p h i c = pushed-there outputs (pass state.StripIPHeader p).verdict h.outputs_from c
act-there inputs outputs input (state.UDPIPEncap t) p h i c = pushed-there outputs (pass (state.UDPIPEncap t) p).verdict h.outputs_from c
act-there inputs outputs input (state.ARPQuerier q) p h i c =
    either-there outputs (input == 0) _ _ (taken_in-there outputs h.outputs_from (counting q) p) (learnt-there outputs h.outputs_from q p (sender p.bytes)) c

pub gives-there : (inputs outputs input : ℕ) (s : State) (p : Packet) → AreThere outputs (gives inputs outputs s input p).copies
unfolding gives
gives-there inputs outputs input (state.PullSwitch k) p c = omega (arith, c)
gives-there inputs outputs input (state.RoundRobinSched n) p c = omega (arith, c)
gives-there inputs outputs input state.PrioSched p c = omega (arith, c)
gives-there inputs outputs input (state.Suppressor active) p c = omega (arith, c)
gives-there inputs outputs input (state.PullTee n) p c = omega (arith, c)
gives-there inputs outputs input s p c = copied-there outputs (pass s p).verdict c

at_most_one : (b : Bool) → (if b then 1 else 0) ≤ 1
at_most_one true = omega arith
at_most_one false = omega arith

pub tries-there : (inputs outputs output : ℕ) (s : State) → FitsPorts inputs outputs s → output < outputs → AreAsked inputs (tries inputs s output)
unfolding tries
tries-there inputs outputs output (state.PullSwitch None) h o c = absurd (omega (arith, c))
tries-there inputs outputs output (state.PullSwitch (Some k)) h o c = (omega (arith, h.inputs_from), omega (arith, h.inputs_from))
tries-there inputs outputs output (state.RoundRobinSched n) h o c = (h.turn, omega arith)
tries-there inputs outputs output state.PrioSched h o c = (omega (arith, c), omega arith)
tries-there inputs outputs output (state.PullTee n) h o c = (omega (arith, h.inputs_from), omega (arith, h.inputs_from))
tries-there inputs outputs output (state.Suppressor active) h o c =
    let same = h.equal refl in (omega (arith, o, same), (let one : (if is_active active output then 1 else 0) ≤ 1 = at_most_one (is_active active output) in omega (arith, o, same, one)))
tries-there inputs outputs output (state.Counter n b) h o c = (omega (arith, h.inputs_from), omega (arith, h.inputs_from))
tries-there inputs outputs output state.Null h o c = (omega (arith, h.inputs_from), omega (arith, h.inputs_from))
tries-there inputs outputs output state.PullNull h o c = (omega (arith, h.inputs_from), omega (arith, h.inputs_from))
tries-there inputs outputs output (state.Paint k) h o c = (omega (arith, h.inputs_from), omega (arith, h.inputs_from))
tries-there inputs outputs output (state.PaintTee k) h o c = (omega (arith, h.inputs_from), omega (arith, h.inputs_from))
tries-there inputs outputs output (state.Strip n) h o c = (omega (arith, h.inputs_from), omega (arith, h.inputs_from))
tries-there inputs outputs output (state.CheckLength n) h o c = (omega (arith, h.inputs_from), omega (arith, h.inputs_from))
tries-there inputs outputs output (state.GetIPAddress n) h o c = (omega (arith, h.inputs_from), omega (arith, h.inputs_from))
tries-there inputs outputs output (state.CheckIPHeader rs) h o c = (omega (arith, h.inputs_from), omega (arith, h.inputs_from))
tries-there inputs outputs output state.DecIPTTL h o c = (omega (arith, h.inputs_from), omega (arith, h.inputs_from))
tries-there inputs outputs output (state.EtherEncap header) h o c = (omega (arith, h.inputs_from), omega (arith, h.inputs_from))
tries-there inputs outputs output (state.ARPResponder stations) h o c = (omega (arith, h.inputs_from), omega (arith, h.inputs_from))
tries-there inputs outputs output (state.ICMPError r) h o c = (omega (arith, h.inputs_from), omega (arith, h.inputs_from))
tries-there inputs outputs output state.ICMPPingResponder h o c = (omega (arith, h.inputs_from), omega (arith, h.inputs_from))
tries-there inputs outputs output (state.HostEtherFilter ether) h o c = (omega (arith, h.inputs_from), omega (arith, h.inputs_from))
tries-there inputs outputs output state.EtherMirror h o c = (omega (arith, h.inputs_from), omega (arith, h.inputs_from))
tries-there inputs outputs output state.IPMirror h o c = (omega (arith, h.inputs_from), omega (arith, h.inputs_from))
tries-there inputs outputs output state.SetIPChecksum h o c = (omega (arith, h.inputs_from), omega (arith, h.inputs_from))
tries-there inputs outputs output state.StripIPHeader h o c = (omega (arith, h.inputs_from), omega (arith, h.inputs_from))
tries-there inputs outputs output (state.UDPIPEncap t) h o c = (omega (arith, h.inputs_from), omega (arith, h.inputs_from))
tries-there inputs outputs output s h o c = absurd (omega (arith, c))
