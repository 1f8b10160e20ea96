-- What a forwarder's Transmits return and what it sends, for consecutive sequences of calls.
use Rattle.std.proofs.Common.{◌≡◌, ℕ, zero, suc, Bool, true, false, List, [], ◌∷◌, ◌++◌, length, map, Some, if◌then◌else◌, refl, sym, ap, subst, ◌∙◌, append-nil, append_assoc, arith}
use Rattle.std.specs.List.{All, Contains}
use Rattle.std.specs.Str.{bytes_eq}
use Rattle.std.proofs.lemmas.List.{map-append}
use Rattle.std.proofs.lemmas.List.Elements.{All-nil, All-cons, All-head, All-tail, All-append, All-weaker}
use Rattle.click_packet.specs.Packet.{Packet}
use Rattle.click_rings.specs.Feeds.{FeedName}
use Rattle.click_router.specs.Polls.{poll}
use Rattle.click_router.specs.declared.call.Call.{Call}
use Rattle.click_router.specs.declared.call.Call.TheVariants as call
use Rattle.click_router.specs.declared.call.Reply.{Reply}
use Rattle.click_router.specs.declared.call.Reply.TheVariants as reply
use Rattle.click_desk.specs.Polls.{MayTake}
use Rattle.click_links.specs.declared.turns.Tally.{Tally}
use Rattle.click_links.specs.Ends.{Attempt}
use Rattle.click_links.specs.Turns.{gave, transmit_call, AreOf, GivesNone, Sends, SendsUntil, Ends, Breaks}
use Rattle.click_links.specs.Forwarding.{packets_in, given, packets_given, sendings, IsForwarding, Forwards, sent_by, given_by, gifts_by}

gifts_append : (ms ns : List (Call × Reply)) → packets_given (ms ++ ns) ≡ packets_given ms ++ packets_given ns
gifts_append [] ns = refl
gifts_append (m ∷ ms) ns = ap (λ l. given m.0 m.1 ++ l) (gifts_append ms ns) ∙ sym (append_assoc (given m.0 m.1) (packets_given ms) (packets_given ns))

sendings_append : (ts us : List Attempt) → sendings (ts ++ us) ≡ sendings ts ++ sendings us
sendings_append ts us = map-append (λ (t : Attempt). (t.device, t.packet)) ts us

module _ (devices : List (List ℕ)) where
  abbrev OfThese : Call × Reply → Type 0
  OfThese m = IsForwarding devices m.0

  -- A forwarder that does nothing.
  pub forwards_none : (calls : List (Call × Reply)) (before : List Attempt) → Forwards devices calls calls before before
  forwards_none calls before = record {
    made = [];
    tries = [];
    grown = sym (append-nil calls);
    sent = sym (append-nil before);
    own = All-nil OfThese;
    each = refl;
  }

  -- Two consecutive sequences of what a forwarder does are one.
  pub forwards_then : (calls calls2 calls3 : List (Call × Reply)) (a b c : List Attempt) → Forwards devices calls calls2 a b → Forwards devices calls2 calls3 b c → Forwards devices calls calls3 a c
  forwards_then calls calls2 calls3 a b c f g = record {
    made = f.made ++ g.made;
    tries = f.tries ++ g.tries;
    grown = g.grown ∙ (ap (λ l. l ++ g.made) f.grown ∙ append_assoc calls f.made g.made);
    sent = g.sent ∙ (ap (λ l. l ++ g.tries) f.sent ∙ append_assoc a f.tries g.tries);
    own = All-append OfThese f.made g.made f.own g.own;
    each = gifts_append f.made g.made ∙ (ap (λ l. l ++ packets_given g.made) f.each ∙ (ap (λ l. sendings f.tries ++ l) g.each ∙ sym (sendings_append f.tries g.tries)));
  }

  -- A forwarder that does nothing more.
  pub forwards_same : (calls calls2 calls3 : List (Call × Reply)) (a b c : List Attempt) → Forwards devices calls calls2 a b → calls3 ≡ calls2 → c ≡ b → Forwards devices calls calls3 a c
  forwards_same calls calls2 calls3 a b c f same still =
      subst (λ (l : List Attempt). Forwards devices calls calls3 a l) (sym still) (subst (λ (l : List (Call × Reply)). Forwards devices calls l a b) (sym same) f)

  -- A forwarder that makes a call which returns no packet to send.
  pub forwards_call : (calls calls2 : List (Call × Reply)) (a : List Attempt) (m : Call × Reply) → calls2 ≡ calls ++ m ∷ [] → IsForwarding devices m.0 → given m.0 m.1 ≡ [] → Forwards devices calls calls2 a a
  forwards_call calls calls2 a m more is none = record {
    made = m ∷ [];
    tries = [];
    grown = more;
    sent = sym (append-nil a);
    own = All-cons OfThese m [] is (All-nil OfThese);
    each = ap (λ l. l ++ []) none;
  }

  own_gave : (device : List ℕ) → Contains devices device → (ts : List Attempt) → AreOf device ts → All OfThese (map gave ts)
  own_gave device has [] own = All-nil OfThese
  own_gave device has (t ∷ ts) own =
      All-cons OfThese (gave t) (map gave ts)
      (subst (λ d. Contains devices d) (sym (All-head (λ (u : Attempt). u.device ≡ device) t ts own)) has)
      (own_gave device has ts (All-tail (λ (u : Attempt). u.device ≡ device) t ts own))

  gifts_gave : (ts : List Attempt) → packets_given (map gave ts) ≡ sendings ts
  gifts_gave [] = refl
  gifts_gave (t ∷ ts) = ap (λ l. (t.device, t.packet) ∷ l) (gifts_gave ts)

  -- A forwarder that sends packets of one device.
  pub forwards_sends : (device : List ℕ) (calls calls2 : List (Call × Reply)) (a b ts : List Attempt) → Contains devices device → Sends device calls calls2 a b ts → Forwards devices calls calls2 a b
  forwards_sends device calls calls2 a b ts has s = record {
    made = map gave ts;
    tries = ts;
    grown = s.made;
    sent = s.sent;
    own = own_gave device has ts s.own;
    each = gifts_gave ts;
  }

none_in : (r : Reply) → GivesNone r → packets_in r ≡ []
none_in (reply.Sent (Some p)) h = absurd cc
none_in _ h = refl

-- The last Transmit, which returned no packet, if there was one.
last_done : (device : List ℕ) (more : Bool) (n : ℕ) (last : List Reply) (calls calls2 : List (Call × Reply)) (a : List Attempt) → calls2 ≡ calls ++ map (transmit_call device) last → Ends GivesNone 256 more n last
    → Forwards (device ∷ []) calls calls2 a a
last_done device true n last calls calls2 a made ends =
    forwards_same (device ∷ []) calls calls calls2 a a a (forwards_none (device ∷ []) calls a) (made ∙ (ap (λ l. calls ++ map (transmit_call device) l) ends.1 ∙ append-nil calls)) refl
last_done device false n last calls calls2 a made ends =
    forwards_call (device ∷ []) calls calls2 a (transmit_call device ends.1) (made ∙ ap (λ l. calls ++ map (transmit_call device) l) ends.2) (0, omega arith, refl)
    (ap (λ (l : List Packet). map (λ p. (device, p)) l) (none_in ends.1 ends.3))

-- Sending packets of a device until it has none, or the maximum number, is what a forwarder of this
-- device does.
pub until_forwards : (device : List ℕ) (calls calls2 : List (Call × Reply)) (a b : List Attempt) (tally : Tally) (more : Bool) → SendsUntil device calls calls2 a b tally more → Forwards (device ∷ []) calls calls2 a b
until_forwards device calls calls2 a b tally more s =
    forwards_then (device ∷ []) calls (calls ++ map gave s.tries) calls2 a b b
    (forwards_sends (device ∷ []) device calls (calls ++ map gave s.tries) a b s.tries (0, omega arith, refl) (record { made = refl; sent = s.sent; own = s.own }))
    (last_done device more (length s.tries) s.last (calls ++ map gave s.tries) calls2 b s.made s.ends)

-- A device turn that stops early is what a forwarder of this device does.
pub breaks_forwards : (device : List ℕ) (calls calls2 : List (Call × Reply)) (a b : List Attempt) → Breaks device calls calls2 a b → Forwards (device ∷ []) calls calls2 a b
breaks_forwards device calls calls2 a b s = forwards_sends (device ∷ []) device calls calls2 a b s.tries (0, omega arith, refl) s.sends

-- A Poll, followed by what a forwarder of the device does, is what a forwarder of this device does.
pub polled_then : (device : List ℕ) (feeds : List FeedName) (calls calls2 calls3 : List (Call × Reply)) (a b : List Attempt) (taken : List Packet) (polled : Reply)
    → MayTake feeds device 32 taken polled → calls2 ≡ calls ++ (poll device taken, polled) ∷ [] → Forwards (device ∷ []) calls2 calls3 a b → Forwards (device ∷ []) calls calls3 a b
polled_then device feeds calls calls2 calls3 a b taken polled may made f =
    forwards_then (device ∷ []) calls calls2 calls3 a a b
    (forwards_call (device ∷ []) calls calls2 a (poll device taken, polled) made ((0, omega arith, refl), may.within) refl) f

-- The only device of a list.
the_one : (device d : List ℕ) → Contains (device ∷ []) d → device ≡ d
the_one device d (zero, below, is) = is
the_one device d (suc k, below, is) = absurd (omega (arith, below))

widened : (devices : List (List ℕ)) (device : List ℕ) → Contains devices device → (c : Call) → IsForwarding (device ∷ []) c → IsForwarding devices c
widened devices device has (call.Poll from taken) h = (subst (λ d. Contains devices d) (the_one device from h.0) has, h.1)
widened devices device has call.Round h = tt
widened devices device has (call.Transmit from) h = subst (λ d. Contains devices d) (the_one device from h) has
widened devices device has _ h = absurd h

-- What a forwarder of one device does is what a forwarder of several devices does, if these include
-- it.
pub forwards_among : (devices : List (List ℕ)) (device : List ℕ) (calls calls2 : List (Call × Reply)) (a b : List Attempt) → Contains devices device → Forwards (device ∷ []) calls calls2 a b → Forwards devices calls calls2 a b
forwards_among devices device calls calls2 a b has f = record {
  made = f.made;
  tries = f.tries;
  grown = f.grown;
  sent = f.sent;
  own = All-weaker (λ (m : Call × Reply). IsForwarding (device ∷ []) m.0) (λ m. IsForwarding devices m.0) (λ m h. widened devices device has m.0 h) f.made f.own;
  each = f.each;
}

-- The packets of one device.
of_device : List ℕ → List (List ℕ × Packet) → List Packet
of_device device [] = []
of_device device (g ∷ gs) = (if bytes_eq g.0 device then g.1 ∷ [] else []) ++ of_device device gs

of_append : (device : List ℕ) (gs hs : List (List ℕ × Packet)) → of_device device (gs ++ hs) ≡ of_device device gs ++ of_device device hs
unfolding of_device
of_append device [] hs = refl
of_append device (g ∷ gs) hs =
    ap (λ l. (if bytes_eq g.0 device then g.1 ∷ [] else []) ++ l) (of_append device gs hs)
    ∙ sym (append_assoc (if bytes_eq g.0 device then g.1 ∷ [] else []) (of_device device gs) (of_device device hs))

of_sendings : (device : List ℕ) (ts : List Attempt) → sent_by device ts ≡ of_device device (sendings ts)
unfolding of_device
of_sendings device [] = refl
of_sendings device (t ∷ ts) = ap (λ l. (if bytes_eq t.device device then t.packet ∷ [] else []) ++ l) (of_sendings device ts)

one_of : (is : Bool) (p : Packet) (ps : List Packet) → (if is then p ∷ [] else []) ++ (if is then ps else []) ≡ (if is then p ∷ ps else [])
one_of true p ps = refl
one_of false p ps = refl

no_packet : (is : Bool) (ps : List Packet) → ps ≡ [] → (if is then ps else []) ≡ []
no_packet true ps none = none
no_packet false ps none = refl

of_pairs : (device from : List ℕ) (ps : List Packet) → of_device device (map (λ p. (from, p)) ps) ≡ (if bytes_eq from device then ps else [])
unfolding of_device
of_pairs device from [] = sym (no_packet (bytes_eq from device) [] refl)
of_pairs device from (p ∷ ps) = ap (λ l. (if bytes_eq from device then p ∷ [] else []) ++ l) (of_pairs device from ps) ∙ one_of (bytes_eq from device) p ps

of_given : (device : List ℕ) (c : Call) (r : Reply) → of_device device (given c r) ≡ given_by device c r
unfolding of_device
of_given device (call.Transmit from) r = of_pairs device from (packets_in r)
of_given device _ r = refl

of_none : (device : List ℕ) → of_device device [] ≡ []
unfolding of_device
of_none device = refl

of_gifts : (device : List ℕ) (ms : List (Call × Reply)) → of_device device (packets_given ms) ≡ gifts_by device ms
of_gifts device [] = of_none device
of_gifts device (m ∷ ms) =
    of_append device (given m.0 m.1) (packets_given ms)
    ∙ (ap (λ l. l ++ of_device device (packets_given ms)) (of_given device m.0 m.1) ∙ ap (λ l. given_by device m.0 m.1 ++ l) (of_gifts device ms))

sent_append : (device : List ℕ) (ts us : List Attempt) → sent_by device (ts ++ us) ≡ sent_by device ts ++ sent_by device us
sent_append device [] us = refl
sent_append device (t ∷ ts) us =
    ap (λ l. (if bytes_eq t.device device then t.packet ∷ [] else []) ++ l) (sent_append device ts us)
    ∙ sym (append_assoc (if bytes_eq t.device device then t.packet ∷ [] else []) (sent_by device ts) (sent_by device us))

-- The packets sent over the link of a device are those that the device's Transmits returned.
pub link_sends : (devices : List (List ℕ)) (calls calls2 : List (Call × Reply)) (before after : List Attempt) (f : Forwards devices calls calls2 before after) (device : List ℕ)
    → sent_by device after ≡ sent_by device before ++ gifts_by device f.made
link_sends devices calls calls2 before after f device =
    ap (sent_by device) f.sent
    ∙ (sent_append device before f.tries
    ∙ ap (λ l. sent_by device before ++ l) (of_sendings device f.tries ∙ (ap (of_device device) (sym f.each) ∙ of_gifts device f.made)))
