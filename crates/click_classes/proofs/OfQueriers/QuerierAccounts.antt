-- The outcome for each packet that an ARPQuerier was given.
use Rattle.std.proofs.Common.{◌≡◌, ℕ, ◌+◌, ◌<◌, ◌^◌, List, [], ◌∷◌, ◌++◌, length, get_or, slice_set, slice_get, Bool, true, false, not, nat_lt, is_some, ◌-◌, if◌then◌else◌, Option, Some, None, refl, sym, ap, ◌∙◌, subst, arith, inl, inr, filter, length-append}
use Rattle.std.specs.Prelude.{◌&&◌, option_map}
use Rattle.std.specs.List.{All, AllPairs, Contains, count_by}
use Rattle.std.specs.Str.{bytes_eq}
use Rattle.std.proofs.lemmas.Bool.{cond_both, and_parts}
use Rattle.std.proofs.lemmas.List.Elements.{All-nil, All-set, All-push, All-filter, All-get_or, Contains-append_right, filter_map-append}
use Rattle.std.proofs.lemmas.List.Kept.{AllPairs-filter}
use Rattle.std.proofs.lemmas.List.Quantifiers.{position-Some}
use Rattle.std.proofs.lemmas.List.Sums.{sum_by-append}
use Rattle.std.proofs.lemmas.Option.{slice_get_within, get_or_from_slice_get, slice_get-get_or}
use Rattle.std.proofs.lemmas.Slice.Eq.{bytes_eq-Decides}
use Rattle.click_packet.specs.Packet.{Packet}
use Rattle.click_gateway.specs.Addresses.{is_host, ethernet_of_group}
use Rattle.click_gateway.specs.Arp.{Sender, sender, ether_header, request_for}
use Rattle.click_classes.specs.Acts.{act, counting, dropping, sent, to_none, sent_to, asked, waiting_for, using, resolved_by, resolved_at, with_new, resolved, forwarded, taken_in, has_header_room, let_go, knowing, learnt_at, learnt_of, learnt, up_by, PushEffect}
use Rattle.click_base.specs.declared.class.Class.{Class}
use Rattle.std.specs.Prelude.{Ok}
use Rattle.click_classes.specs.Made.{IsMade}
use Rattle.click_classes.specs.Settings.{settings}
use Rattle.click_classes.specs.Neighbours.{Neighbour, most_neighbours, place_of, waiting_in}
use Rattle.click_classes.specs.NeighbourWrites.{keeping, inserted, inserted_at, can_be_known}
use Rattle.click_classes.specs.QuerierRuns.{QuerierEvent, Departure, QuerierRun, AreSent, HasEther, IsFrameOf, IsQueryFor, IsAccount, IsSoundNeighbour, IsSoundQuerier, after_push, quiet, written_or, after_event, after_events, given_in, all_given, waiting_packets}
use Rattle.click_classes.specs.QuerierRuns as runs
use Rattle.click_classes.specs.declared.neighbours.Querier.{Querier}
use Rattle.click_classes.specs.declared.state.State.TheVariants as state
use Rattle.click_classes.proofs.OfStates.FirstStates.{fresh-begins}
use Rattle.click_classes.proofs.OfQueriers.QuerierTables.{held, waiting, waiting-set, waiting-added, waiting-filtered, held-there, set-there, slice_get-Contains, Apart, apart-set, apart-added}

-- the outcome for packets, and that the querier is sound afterwards
pub record Told (outputs : ℕ) (before : Querier) (taken : List Packet) (run : QuerierRun) : Type 0 where
  pub sent : List Packet
  pub dropped : List Packet
  pub account : IsAccount outputs before taken run sent dropped
  pub sound : IsSoundQuerier run.querier

same-drops : (d : ℕ) → d < 2 ^ 64 → d ≡ up_by d 0
same-drops d h = omega (arith, h)

narrow-drops : (d n : ℕ) → up_by d n < 2 ^ 64
narrow-drops d n = omega arith

-- a packet that was replaced is a drop
drop-held : (q : Querier) (o : Option Packet) → q.drops < 2 ^ 64 → (if is_some o then up_by q.drops 1 else q.drops) ≡ up_by q.drops (length (held o))
drop-held q None h = same-drops q.drops h
drop-held q (Some p) h = refl

narrow-held : (q : Querier) (o : Option Packet) → q.drops < 2 ^ 64 → (if is_some o then up_by q.drops 1 else q.drops) < 2 ^ 64
narrow-held q None h = h
narrow-held q (Some p) h = narrow-drops q.drops 1

-- ---- three ends of a push

module _ (outputs : ℕ) (f before : Querier) (taken : List Packet) where
  abbrev Ends : PushEffect → Type 0
  Ends r = Told outputs before taken (after_push f r)

  none-left : (t : Querier) (p : Packet) (dropped : List Packet)
      → ((test : Packet → Bool) → count_by test (waiting before.table) + count_by test taken ≡ count_by test dropped + count_by test (waiting t.table))
      → t.drops ≡ up_by before.drops (length dropped) → IsSoundQuerier t → Ends (to_none (state.ARPQuerier t) p)
  none-left t p dropped once counted sound = record {
    sent = [];
    dropped = dropped;
    account = record { once = λ test. omega (arith, once test); left = runs.none; counted = counted };
    sound = sound;
  }

  sent-left : (t : Querier) (p : Packet) (to : List ℕ) → has_header_room p ≡ true → HasEther t p.destination to
      → ((test : Packet → Bool) → count_by test (waiting before.table) + count_by test taken ≡ count_by test (p ∷ []) + count_by test (waiting t.table))
      → t.drops ≡ up_by before.drops 0 → IsSoundQuerier t → Ends (sent_to t p to)
  sent-left t p to room known once counted sound = cond_both (has_header_room p) _ _ Ends (λ k. made) (λ k. absurd (cc (sym room ∙ k)))
    where
      made : Ends (sent (state.ARPQuerier t) (record p { bytes = ether_header to t.ether ++ p.bytes }) 0 1)
      made = record {
        sent = p ∷ [];
        dropped = [];
        account = record {
          once = λ test. omega (arith, once test);
          left = runs.frame (record { output = 0; packet = record p { bytes = ether_header to t.ether ++ p.bytes }; querier = t }) [] p [] (record { ether = to; known = known; output = refl; frame = refl }) runs.none;
          counted = counted;
        };
        sound = sound;
      }

  asked-left : (t : Querier) (p : Packet) (dropped : List Packet) → Contains (waiting t.table) p
      → ((test : Packet → Bool) → count_by test (waiting before.table) + count_by test taken ≡ count_by test dropped + count_by test (waiting t.table))
      → t.drops ≡ up_by before.drops (length dropped) → IsSoundQuerier t → Ends (asked outputs t p)
  asked-left t p dropped waits once counted sound = record {
    sent = [];
    dropped = dropped;
    account = record {
      once = λ test. omega (arith, once test);
      left = runs.query
          (record { output = if nat_lt 1 outputs then 1 else 0; packet = record p { bytes = request_for t.ip t.ether p.destination }; querier = t })
          [] p [] (record { waits = waits; output = refl; query = refl }) runs.none;
      counted = counted;
    };
    sound = sound;
  }

-- ---- a neighbour of a sound table

sound-at : (q : Querier) (place : ℕ) (n : Neighbour) → IsSoundQuerier q → slice_get q.table place ≡ Some n → IsSoundNeighbour n
sound-at q place n sound there =
    subst IsSoundNeighbour (get_or_from_slice_get q.table place n n there) (All-get_or IsSoundNeighbour q.table place n (slice_get_within q.table place n there) sound.each)

-- a table in which a neighbour was replaced by one with the same address
sound-set : (q : Querier) (place : ℕ) (n m : Neighbour) (drops : ℕ) → IsSoundQuerier q → slice_get q.table place ≡ Some n → m.address ≡ n.address
    → IsSoundNeighbour m → drops < 2 ^ 64 → IsSoundQuerier (record q { table = slice_set q.table place m; drops = drops })
sound-set q place n m drops sound there same good narrow = record {
  each = All-set IsSoundNeighbour q.table place m good sound.each;
  apart = apart-set q.table place n m there same sound.apart;
  narrow = narrow;
}

-- a table with one more neighbour
sound-added : (q : Querier) (m : Neighbour) → IsSoundQuerier q → place_of q.table m.address ≡ None → IsSoundNeighbour m
    → IsSoundQuerier (record q { table = q.table ++ m ∷ [] })
sound-added q m sound new good = record {
  each = All-push IsSoundNeighbour q.table m sound.each good;
  apart = apart-added q.table m new sound.apart;
  narrow = sound.narrow;
}

-- a neighbour for which no packet waits
idle : (n : Neighbour) → is_host n.address ≡ true → n.waiting ≡ None → IsSoundNeighbour n
idle n host none = record {
  host = host;
  unknown = λ p is. absurd (cc (sym none ∙ is));
  own = λ p is. absurd (cc (sym none ∙ is));
  room = λ p is. absurd (cc (sym none ∙ is));
}

-- a neighbour for which a packet waits
waits-for : (n : Neighbour) (p : Packet) → is_host n.address ≡ true → n.waiting ≡ Some p → n.ether ≡ None → p.destination ≡ n.address → has_header_room p ≡ true
    → IsSoundNeighbour n
waits-for n p host is unknown own room = record {
  host = host;
  unknown = λ x at. unknown;
  own = λ x at. subst (λ (y : Packet). y.destination ≡ n.address) (one x at) own;
  room = λ x at. subst (λ (y : Packet). has_header_room y ≡ true) (one x at) room;
} where
  one : (x : Packet) → n.waiting ≡ Some x → p ≡ x
  one x at = let e = sym is ∙ at in cc

nobody : Neighbour
nobody = record { address = []; ether = None; waiting = None; used = 0 }

-- the neighbour at the place of an address has that address
place-is : (ns : List Neighbour) (address : List ℕ) (place : ℕ) (n : Neighbour) → place_of ns address ≡ Some place → slice_get ns place ≡ Some n → n.address ≡ address
place-is ns address place n found there =
    let is = position-Some (λ (m : Neighbour). bytes_eq m.address address) ns place n found in
    subst (λ (m : Neighbour). m.address ≡ address) (get_or_from_slice_get ns place n n there) ((bytes_eq-Decides (get_or ns place n).address address).0 is.1)

-- ---- a packet at input 0

module _ (outputs : ℕ) (f q : Querier) (sound : IsSoundQuerier q) (p : Packet) where
  abbrev Given : PushEffect → Type 0
  Given r = Told outputs q (p ∷ []) (after_push f r)

  drops-it : Given (to_none (state.ARPQuerier (dropping q)) p)
  drops-it = none-left outputs f q (p ∷ []) (dropping q) p (p ∷ []) (λ test. omega arith) refl
      (record { each = sound.each; apart = sound.apart; narrow = narrow-drops q.drops 1 })

  module _ (room : has_header_room p ≡ true) where
    module _ (place : ℕ) (n : Neighbour) (there : slice_get q.table place ≡ Some n) (own : n.address ≡ p.destination) where
      used-one : Neighbour
      used-one = record n { used = q.packets }

      waiting-one : Neighbour
      waiting-one = record n { waiting = Some p; used = q.packets }

      by-ether : (o : Option (List ℕ)) → n.ether ≡ o → Given (resolved_by outputs q p place n o)
      unfolding used-one waiting-one
      by-ether (Some to) is =
          sent-left outputs f q (p ∷ []) (using q place n) p to room
          (inr (used-one, slice_get-Contains (slice_set q.table place used-one) place used-one (set-there q.table place n used-one there), own, is))
          (λ test. omega (arith, waiting-set test q.table place n used-one there)) (same-drops q.drops sound.narrow)
          (let good = sound-at q place n sound there in
          sound-set q place n used-one q.drops sound there refl (record { host = good.host; unknown = good.unknown; own = good.own; room = good.room }) sound.narrow)
      by-ether None is =
          asked-left outputs f q (p ∷ []) (waiting_for q place n p) p (held n.waiting)
          (held-there (slice_set q.table place waiting-one) place waiting-one p (set-there q.table place n waiting-one there) refl)
          (λ test. omega (arith, waiting-set test q.table place n waiting-one there)) (drop-held q n.waiting sound.narrow)
          (sound-set q place n waiting-one _ sound there refl (waits-for waiting-one p (sound-at q place n sound there).host refl is (sym own) room)
          (narrow-held q n.waiting sound.narrow))

    new-one : Neighbour
    new-one = record { address = p.destination; ether = None; waiting = Some p; used = q.packets }

    by-place : (o : Option ℕ) → place_of q.table p.destination ≡ o → Given (resolved outputs q p o)
    unfolding new-one
    by-place None new = cond_both (is_host p.destination && nat_lt (length q.table) most_neighbours) _ _ Given
        (λ k. asked-left outputs f q (p ∷ []) (with_new q p) p []
        (subst (λ ps. Contains ps p) (sym (filter_map-append (λ (n : Neighbour). n.waiting) q.table (new-one ∷ [])))
        (Contains-append_right (waiting q.table) (p ∷ []) p (0, omega arith, refl)))
        (λ test. omega (arith, waiting-added test q.table new-one)) (same-drops q.drops sound.narrow)
        (sound-added q new-one sound new (waits-for new-one p (and_parts _ _ k).0 refl refl refl room)))
        (λ k. drops-it)
    by-place (Some place) found = go (slice_get q.table place) refl where
      go : (o : Option Neighbour) → slice_get q.table place ≡ o → Given (resolved_at outputs q p place o)
      go (Some n) there = by-ether place n there (place-is q.table p.destination place n found there) n.ether refl
      go None there =
          let lt = (position-Some (λ (m : Neighbour). bytes_eq m.address p.destination) q.table place nobody found).0 in
          absurd (cc (sym there ∙ slice_get-get_or q.table place nobody lt))

    by-group : (o : Option (List ℕ)) → ethernet_of_group p.destination ≡ o → Given (forwarded outputs q p o)
    by-group (Some group) is = sent-left outputs f q (p ∷ []) q p group room (inl is) (λ test. omega arith) (same-drops q.drops sound.narrow) sound
    by-group None is = by-place (place_of q.table p.destination) refl

  given-told : Given (taken_in outputs q p)
  given-told = cond_both (has_header_room p) _ _ Given (λ k. by-group k (ethernet_of_group p.destination) refl) (λ k. drops-it)

-- ---- a packet at input 1

module _ (outputs : ℕ) (f q : Querier) (sound : IsSoundQuerier q) (p : Packet) where
  abbrev Heard : PushEffect → Type 0
  Heard r = Told outputs q [] (after_push f r)

  no-effect : Heard (to_none (state.ARPQuerier q) p)
  no-effect = none-left outputs f q [] q p [] (λ test. omega arith) (same-drops q.drops sound.narrow) sound

  module _ (ether : List ℕ) (place : ℕ) (n : Neighbour) (there : slice_get q.table place ≡ Some n) where
    known-one : Neighbour
    known-one = record n { ether = Some ether; waiting = None; used = q.packets }

    by-waiting : (o : Option Packet) → n.waiting ≡ o → Heard (let_go (knowing q place n ether) p ether o)
    unfolding known-one
    by-waiting o is = go o is where
      good : IsSoundNeighbour n
      good = sound-at q place n sound there

      after : IsSoundQuerier (knowing q place n ether)
      after = sound-set q place n known-one q.drops sound there refl (idle known-one good.host refl) sound.narrow

      less : (test : Packet → Bool) → count_by test (waiting (slice_set q.table place known-one)) + count_by test (held n.waiting) ≡ count_by test (waiting q.table)
      less test = omega (arith, waiting-set test q.table place n known-one there)

      go : (o : Option Packet) → n.waiting ≡ o → Heard (let_go (knowing q place n ether) p ether o)
      go None is = none-left outputs f q [] (knowing q place n ether) p [] (λ test. omega (arith, less test, ap (λ w. count_by test (held w)) is))
          (same-drops q.drops sound.narrow) after
      go (Some waited) is =
          sent-left outputs f q [] (knowing q place n ether) waited ether (good.room waited is)
          (inr (known-one, slice_get-Contains (slice_set q.table place known-one) place known-one (set-there q.table place n known-one there), sym (good.own waited is), refl))
          (λ test. omega (arith, less test, ap (λ w. count_by test (held w)) is)) (same-drops q.drops sound.narrow) after

  heard-told : (o : Option Sender) → Heard (learnt q p o)
  heard-told None = no-effect
  heard-told (Some who) = of (place_of q.table who.ip) where
    at : (place : ℕ) (o : Option Neighbour) → slice_get q.table place ≡ o → Heard (learnt_at q p who place o)
    at place None there = no-effect
    at place (Some n) there = by-waiting who.ether place n there n.waiting refl

    of : (o : Option ℕ) → Heard (learnt_of q p who o)
    of None = no-effect
    of (Some place) = at place (slice_get q.table place) refl

-- ---- writes of handlers

module _ (outputs : ℕ) (q : Querier) (sound : IsSoundQuerier q) where
  abbrev Written : Querier → Type 0
  Written t = Told outputs q [] (quiet t)

  written : (t : Querier) (dropped : List Packet)
      → ((test : Packet → Bool) → count_by test (waiting q.table) ≡ count_by test dropped + count_by test (waiting t.table))
      → t.drops ≡ up_by q.drops (length dropped) → IsSoundQuerier t → Written t
  written t dropped once counted good = record {
    sent = [];
    dropped = dropped;
    account = record { once = λ test. omega (arith, once test); left = runs.none; counted = counted };
    sound = good;
  }

  keeps-it : Written q
  keeps-it = written q [] (λ test. omega arith) (same-drops q.drops sound.narrow) sound

  kept-told : (keep : Neighbour → Bool) → Written (keeping keep q)
  kept-told keep =
      let gone = filter (λ n. not (keep n)) q.table in
      written (keeping keep q) (waiting gone) (λ test. omega (arith, waiting-filtered test keep q.table)) refl
      (record {
        each = All-filter keep IsSoundNeighbour q.table sound.each;
        apart = AllPairs-filter Apart keep q.table sound.apart;
        narrow = narrow-drops q.drops (waiting_in gone);
      })

  module _ (address ether : List ℕ) where
    abbrev Inserted : Option Querier → Type 0
    Inserted o = Written (written_or q o)

    inserted-one : Neighbour
    inserted-one = record { address = address; ether = Some ether; waiting = None; used = q.packets }

    insert-told : Inserted (inserted address ether q)
    unfolding inserted-one
    insert-told = cond_both (can_be_known address ether) _ _ Inserted (λ k. at (and_parts _ _ (and_parts _ _ k).0).0 (place_of q.table address) refl) (λ k. keeps-it) where
      at : is_host address ≡ true → (o : Option ℕ) → place_of q.table address ≡ o → Inserted (inserted_at q address ether o)
      at host None new = cond_both (nat_lt (length q.table) most_neighbours) _ _ Inserted
          (λ k. written (record q { table = q.table ++ inserted-one ∷ [] }) [] (λ test. omega (arith, waiting-added test q.table inserted-one))
          (same-drops q.drops sound.narrow) (sound-added q inserted-one sound new (idle inserted-one host refl)))
          (λ k. keeps-it)
      at host (Some place) found = go (slice_get q.table place) refl where
        go : (o : Option Neighbour) → slice_get q.table place ≡ o → Inserted (option_map (λ (n : Neighbour). record q {
          table = slice_set q.table place (record n { ether = Some ether; waiting = None; used = q.packets });
          drops = if is_some n.waiting then up_by q.drops 1 else q.drops;
        }) o)
        go None there = keeps-it
        go (Some n) there =
            let m : Neighbour = record n { ether = Some ether; waiting = None; used = q.packets } in
            written _ (held n.waiting) (λ test. omega (arith, waiting-set test q.table place n m there)) (drop-held q n.waiting sound.narrow)
            (sound-set q place n m _ sound there refl (idle m (sound-at q place n sound there).host refl) (narrow-held q n.waiting sound.narrow))

  swap-told : (other : Querier) → Written (record other { table = q.table; packets = q.packets; drops = q.drops })
  swap-told other = written _ [] (λ test. omega arith) (same-drops q.drops sound.narrow) (record { each = sound.each; apart = sound.apart; narrow = sound.narrow })

-- ---- runs

event-told : (outputs : ℕ) (q : Querier) (e : QuerierEvent) → IsSoundQuerier q → Told outputs q (given_in e) (after_event outputs q e)
unfolding act
event-told outputs q (runs.given p) sound =
    let counted : IsSoundQuerier (counting q) = record { each = sound.each; apart = sound.apart; narrow = sound.narrow } in
    let t = given-told outputs q (counting q) counted p in
    record { sent = t.sent; dropped = t.dropped; account = record { once = t.account.once; left = t.account.left; counted = t.account.counted }; sound = t.sound }
event-told outputs q (runs.heard p) sound = heard-told outputs q q sound p (sender p.bytes)
event-told outputs q (runs.insert address ether) sound = insert-told outputs q sound address ether
event-told outputs q (runs.delete address) sound = kept-told outputs q sound (λ n. not (bytes_eq n.address address))
event-told outputs q runs.clear sound = kept-told outputs q sound (λ n. false)
event-told outputs q (runs.expire packets) sound = kept-told outputs q sound (λ n. nat_lt (q.packets - n.used) packets)
event-told outputs q (runs.swap other) sound = swap-told outputs q sound other

sent-append : (outputs : ℕ) (ds es : List Departure) (ps ss : List Packet) → AreSent outputs ds ps → AreSent outputs es ss → AreSent outputs (ds ++ es) (ps ++ ss)
sent-append outputs _ es _ ss runs.none more = more
sent-append outputs _ es _ ss (runs.frame d ds p ps is rest) more = runs.frame d (ds ++ es) p (ps ++ ss) is (sent-append outputs ds es ps ss rest more)
sent-append outputs _ es _ ss (runs.query d ds p ps is rest) more = runs.query d (ds ++ es) p (ps ++ ss) is (sent-append outputs ds es ps ss rest more)

count-append : (test : Packet → Bool) (ps rs : List Packet) → count_by test (ps ++ rs) ≡ count_by test ps + count_by test rs
count-append test ps rs = sum_by-append (λ p. if test p then 1 else 0) ps rs

pub run-told : (outputs : ℕ) (q : Querier) (es : List QuerierEvent) → IsSoundQuerier q → Told outputs q (all_given es) (after_events outputs q es)
run-told outputs q [] sound = keeps-it outputs q sound
run-told outputs q (e ∷ es) sound =
    let a = event-told outputs q e sound in
    let b = run-told outputs (after_event outputs q e).querier es a.sound in
    record {
      sent = a.sent ++ b.sent;
      dropped = a.dropped ++ b.dropped;
      account = record {
        once = λ test. omega (arith, a.account.once test, b.account.once test, count-append test (given_in e) (all_given es), count-append test a.sent b.sent, count-append test a.dropped b.dropped);
        left = sent-append outputs _ _ a.sent b.sent a.account.left b.account.left;
        counted = omega (arith, a.account.counted, b.account.counted, length-append a.dropped b.dropped);
      };
      sound = b.sound;
    }

pub made-sound : (c : Class) (text : List ℕ) (q : Querier) → IsMade c text (Ok (state.ARPQuerier q)) → IsSoundQuerier q
made-sound c text q made =
    let first : settings (state.ARPQuerier q) ≡ state.ARPQuerier q = fresh-begins c _ (state.ARPQuerier q) made.fresh in
    let empty : q.table ≡ [] = cc in
    let none : q.drops ≡ 0 = cc in
    record {
      each = subst (λ ns. All IsSoundNeighbour ns) (sym empty) (All-nil IsSoundNeighbour);
      apart = subst (λ ns. AllPairs Apart ns) (sym empty) (λ i j d lt within. absurd (omega (arith, within)));
      narrow = omega (arith, none);
    }
