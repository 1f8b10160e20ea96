-- The packets that wait in a sound table: none for an address whose Ethernet address is known, and
-- at most one for each address.
use Rattle.std.proofs.Common.{◌≡◌, ◌≢◌, ℕ, suc, ◌+◌, ◌<◌, ◌≤◌, List, [], ◌∷◌, length, get_or, slice_index, ◌==◌, Bool, true, false, not, nat_le, nat_lt, Option, Some, None, refl, sym, ap, ◌∙◌, arith, inl, inr}
use Rattle.std.specs.Prelude.{◌&&◌}
use Rattle.std.specs.List.{All, AllPairs, count_by, sum_by}
use Rattle.std.specs.Str.{bytes_eq}
use Rattle.std.proofs.lemmas.Bool.{cases_Bool, cases_eq, cases_lt, cond_both, and_parts, leb-true, ltb-true}
use Rattle.std.proofs.lemmas.List.Elements.{All-head, All-tail}
use Rattle.std.proofs.lemmas.List.Sums.{sum_by-cons}
use Rattle.std.proofs.lemmas.Option.{get_or_from_slice_get, slice_get-get_or}
use Rattle.std.proofs.lemmas.Slice.Eq.{bytes_eq-Decides}
use Rattle.click_packet.specs.Packet.{Packet}
use Rattle.click_gateway.specs.Addresses.{is_host, ethernet_of_group, broadcast_ip}
use Rattle.click_classes.specs.Neighbours.{Neighbour}
use Rattle.click_classes.specs.QuerierRuns.{QuerierEvent, HasEther, IsAccount, IsSoundNeighbour, IsSoundQuerier, after_events, all_given, waiting_packets}
use Rattle.click_classes.specs.declared.neighbours.Querier.{Querier}
use Rattle.click_classes.proofs.OfQueriers.QuerierAccounts.{run-told}
use Rattle.click_classes.proofs.OfQueriers.QuerierTables.{held, waiting, weight, waiting-weights, Apart}

-- a host's address is none of a group
host-alone : (address : List ℕ) → is_host address ≡ true → (ether : List ℕ) → ethernet_of_group address ≢ Some ether
host-alone address host ether =
    let f = slice_index address 0 in
    let below = ltb-true f 224 (and_parts (nat_le 1 f) (nat_lt f 224) (and_parts (nat_le 1 f && nat_lt f 224) (not (f == 127)) host).0).1 in
    cond_both (bytes_eq address broadcast_ip) _ _ (λ (o : Option (List ℕ)). o ≢ Some ether)
    (λ is e. absurd (omega (arith, below, ap (λ a. slice_index a 0) ((bytes_eq-Decides address broadcast_ip).0 is))))
    (λ other. cond_both (nat_le 224 f && nat_lt f 240) _ _ (λ (o : Option (List ℕ)). o ≢ Some ether)
    (λ is e. absurd (omega (arith, below, leb-true 224 f (and_parts (nat_le 224 f) (nat_lt f 240) is).0)))
    (λ no e. absurd (cc e)))

-- the weight of neighbours, none of which has a packet that passes
light : (test : Packet → Bool) (ns : List Neighbour) → All (λ n. weight test n ≡ 0) ns → sum_by (weight test) ns ≡ 0
light test [] h = refl
light test (n ∷ ns) h = omega (arith, sum_by-cons (weight test) n ns, All-head (λ m. weight test m ≡ 0) n ns h, light test ns (All-tail (λ m. weight test m ≡ 0) n ns h))

abbrev to : List ℕ → Packet → Bool
to address p = bytes_eq p.destination address

-- a neighbour with another address, or with an Ethernet address, has no packet for the address
weight-none : (address : List ℕ) (n : Neighbour) → IsSoundNeighbour n → ((p : Packet) → n.waiting ≡ Some p → n.address ≢ address) → weight (to address) n ≡ 0
weight-none address n good other = go n.waiting refl where
  go : (o : Option Packet) → n.waiting ≡ o → count_by (to address) (held o) ≡ 0
  go None is = refl
  go (Some p) is = by (bytes_eq p.destination address) refl where
    by : (b : Bool) → bytes_eq p.destination address ≡ b → count_by (to address) (p ∷ []) ≡ 0
    by true e = absurd (other p is (sym (good.own p is) ∙ (bytes_eq-Decides p.destination address).0 e))
    by false e = rw e refl

pub known-none : (q : Querier) (address ether : List ℕ) → IsSoundQuerier q → HasEther q address ether → count_by (to address) (waiting q.table) ≡ 0
known-none q address ether sound (inl group) =
    waiting-weights (to address) q.table
    ∙ light (to address) q.table (λ i d lt.
    let good = sound.each i d lt in
    weight-none address (get_or q.table i d) good (λ p is same. host-alone (get_or q.table i d).address good.host ether (ap ethernet_of_group same ∙ group)))
known-none q address ether sound (inr found) =
    waiting-weights (to address) q.table ∙ light (to address) q.table (λ i d lt. weight-none address (get_or q.table i d) (sound.each i d lt) (other i d lt))
  where
    is_found : (d : Neighbour) → get_or q.table found.1.0 d ≡ found.0
    is_found d = get_or_from_slice_get q.table found.1.0 found.0 d (slice_get-get_or q.table found.1.0 found.0 found.1.1 ∙ ap Some found.1.2)

    other : (i : ℕ) (d : Neighbour) → i < length q.table → (p : Packet) → (get_or q.table i d).waiting ≡ Some p → (get_or q.table i d).address ≢ address
    other i d lt p is same = elim (cases_eq i found.1.0) [
      | inl here ↦
          let it : get_or q.table i d ≡ found.0 = ap (λ k. get_or q.table k d) here ∙ is_found d in
          let no = (sound.each i d lt).unknown p is in
          absurd (cc (sym found.3 ∙ ap (λ (n : Neighbour). n.ether) (sym it) ∙ no))
      | inr away ↦
          let own : (get_or q.table found.1.0 d).address ≡ address = ap (λ (n : Neighbour). n.address) (is_found d) ∙ found.2 in
          elim (cases_lt i found.1.0) [
            | inl before ↦ sound.apart i found.1.0 d before found.1.1 (same ∙ sym own)
            | inr after ↦ sound.apart found.1.0 i d (omega (arith, after, away)) lt (own ∙ sym same)
          ]
    ]

held-one : (test : Packet → Bool) (o : Option Packet) → count_by test (held o) ≤ 1
held-one test None = omega arith
held-one test (Some p) = by (test p) refl where
  by : (b : Bool) → test p ≡ b → count_by test (p ∷ []) ≤ 1
  by true e = rw e (omega arith)
  by false e = rw e (omega arith)

one-in : (address : List ℕ) (ns : List Neighbour) → All IsSoundNeighbour ns → AllPairs Apart ns → sum_by (weight (to address)) ns ≤ 1
one-in address [] each apart = omega arith
one-in address (n ∷ ns) each apart = elim (cases_Bool (bytes_eq n.address address)) [
  | inl e ↦
      let own : n.address ≡ address = (bytes_eq-Decides n.address address).0 e in
      let none = light (to address) ns (λ i d lt.
      weight-none address (get_or ns i d) (All-tail IsSoundNeighbour n ns each i d lt)
      (λ p is same. apart 0 (suc i) d (omega arith) (omega (arith, lt)) (own ∙ sym same))) in
      omega (arith, sum_by-cons (weight (to address)) n ns, none, held-one (to address) n.waiting)
  | inr e ↦
      let none = weight-none address n (All-head IsSoundNeighbour n ns each) (λ p is same. absurd (let yes = (bytes_eq-Decides n.address address).1 same in cc (sym e ∙ yes))) in
      let rest = one-in address ns (All-tail IsSoundNeighbour n ns each) (λ i j d lt within. apart (suc i) (suc j) d (omega (arith, lt)) (omega (arith, within))) in
      omega (arith, sum_by-cons (weight (to address)) n ns, none, rest)
]

pub at_most_one : (q : Querier) (address : List ℕ) → IsSoundQuerier q → count_by (to address) (waiting_packets q) ≤ 1
at_most_one q address sound = omega (arith, waiting-weights (to address) q.table, one-in address q.table sound.each sound.apart)

pub account-known : (outputs : ℕ) (q : Querier) (es : List QuerierEvent) (address ether : List ℕ) (sent dropped : List Packet) → IsSoundQuerier q
    → IsAccount outputs q (all_given es) (after_events outputs q es) sent dropped → HasEther (after_events outputs q es).querier address ether
    → count_by (to address) (waiting_packets q) + count_by (to address) (all_given es) ≡ count_by (to address) sent + count_by (to address) dropped
account-known outputs q es address ether sent dropped sound account known =
    omega (arith, account.once (to address), known-none (after_events outputs q es).querier address ether (run-told outputs q es sound).sound known)
