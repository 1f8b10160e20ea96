-- Lemmas about the table of the other ends of ports.
use Rattle.std.proofs.Common.{◌≡◌, ◌⊎◌, inl, inr, ℕ, zero, suc, ◌+◌, ◌<◌, ◌≤◌, refl, sym, ap, subst, ◌∙◌, arith, All, List, [], ◌∷◌, set, get_or, length, map, take, drop, max, Bool, true, false, cond, Contains, Option, Some, None}
use Rattle.std.specs.Prelude.{nat_eq, ◌&&◌, IfSome, if◌then◌else◌}
use Rattle.std.specs.List.{range_with_len}
use Rattle.std.proofs.lemmas.Bool.{cases_lt, false≢true}
use Rattle.std.proofs.lemmas.Bool.Decides.{nat_tests}
use Rattle.std.proofs.lemmas.List.{get_or-set_same, get_or-set_other, get_or-take, get_or-drop, get_or_past, get_or-map, length-map, length-take}
use Rattle.std.proofs.lemmas.List.FromFn.{get_or-map-range_with_len, length-map-range_with_len}
use Rattle.click_classes.specs.declared.ports.Side.{Side}
use Rattle.click_classes.specs.declared.ports.Side.TheVariants.{Input, Output}
use Rattle.click_expand.specs.declared.flat.Connection.{Connection}
use Rattle.click_ports.specs.declared.port.Port.{Port}
use Rattle.click_ports.specs.Net.{Net}
use Rattle.click_ports.specs.Ports.{first, joined_port, past, port_index, used, Has}
use Rattle.click_ports.specs.kept.Wiring.{AreWithin as AreBetween}
use Rattle.click_ports.proofs.PortNumbers.{number-same, number-within}
use Rattle.click_ports.proofs.PortUses.{has-within}
use Rattle.click_engine.specs.Adjacency.{end_of, is_port, first_joined}
use Rattle.click_engine.specs.kept.Tables.{element_of, end_apart, far_at, far_of, first_at, joined_at, nowhere, port_of, AreFirst, AreFirstTargets, AreWithin, IsTable, Leads}
use Rattle.click_engine.specs.declared.run_state.ConnectionEnd.{ConnectionEnd}

abbrev pub port : ℕ → Side → ℕ → Port
port at s number = record { element = at; side = s; number = number }

abbrev opposite : Side → Side
opposite Output = Input
opposite Input = Output

-- a connection before others
joined-more : (s : Side) (c : Connection) (cs : List Connection) (at number : ℕ)
    → joined_at s (c ∷ cs) at number ≡ (if is_port (end_of s c) at number then Some (end_of (opposite s) c) else joined_at s cs at number)
joined-more Output c cs at number = refl
joined-more Input c cs at number = refl

is-port : (q : ConnectionEnd) (at number : ℕ) → is_port q at number ≡ true → (q.element ≡ at) × (q.port ≡ number)
is-port q at number h = (grind (arith, nat_tests), grind (arith, nat_tests))

-- a port past those that are used has no connection
pub unused : (s : Side) (cs : List Connection) (at number : ℕ) → used cs at s ≤ number → joined_at s cs at number ≡ None
unused Output [] at number h = refl
unused Input [] at number h = refl
unused s (c ∷ cs) at number h = joined-more s c cs at number ∙ go s (is_port (end_of s c) at number) refl h (unused s cs at number (omega (arith, h)))
  where
    go : (s : Side) (b : Bool) → is_port (end_of s c) at number ≡ b → used (c ∷ cs) at s ≤ number → joined_at s cs at number ≡ None → (if b then Some (end_of (opposite s) c) else joined_at s cs at number) ≡ None
    go s false e l rest = rest
    go Output true e l rest =
        let (there, here) = is-port (end_of Output c) at number e in
        let is : nat_eq c.from at ≡ true = grind (arith, nat_tests) in
        absurd (omega (arith, here, rw is at l))
    go Input true e l rest =
        let (there, here) = is-port (end_of Input c) at number e in
        let is : nat_eq c.to at ≡ true = grind (arith, nat_tests) in
        absurd (omega (arith, here, rw is at l))

-- ports of elements that do not exist are not used
pub unused-past : (n : ℕ) (s : Side) (cs : List Connection) (at number : ℕ) → AreBetween n cs → n ≤ at → joined_at s cs at number ≡ None
unused-past n s cs at number all h = elim (cases_lt number (used cs at s)) [
  | inl l ↦ (let inside : at < n = has-within n cs (port at s number) all l in absurd (omega (arith, inside, h)))
  | inr l ↦ unused s cs at number (omega (arith, l))
]

side-apart : Input ≡ Output → ⊥
side-apart e = absurd (cc e)

same-port : (q : ConnectionEnd) (at number : ℕ) (s : Side) → port q.element s q.port ≡ port at s number → is_port q at number ≡ true
same-port q at number s e =
    let there : q.element ≡ at = ap (λ (p : Port). p.element) e in
    let here : q.port ≡ number = ap (λ (p : Port). p.number) e in
    grind (arith, nat_tests)

-- one end of a connection is entered
module _ (cs : List Connection) (n : ℕ) (ends : List ConnectionEnd) (s : Side) (near far : ConnectionEnd) (has : Has cs (port near.element s near.port)) (inside : port_index cs (port near.element s near.port) < length ends) where
  entered-same : (at number : ℕ) → is_port near at number ≡ true → get_or (set ends (port_index cs (port near.element s near.port)) far) (port_index cs (port at s number)) (nowhere n) ≡ far
  entered-same at number e =
      let (there, here) = is-port near at number e in
      rw (← there, ← here) (get_or-set_same ends (port_index cs (port near.element s near.port)) far (nowhere n) inside)

  entered-other : (p : Port) → Has cs p → (port near.element s near.port ≡ p → ⊥) → get_or (set ends (port_index cs (port near.element s near.port)) far) (port_index cs p) (nowhere n) ≡ get_or ends (port_index cs p) (nowhere n)
  entered-other p h k = get_or-set_other ends (port_index cs (port near.element s near.port)) (port_index cs p) far (nowhere n) (λ e. k (number-same cs (port near.element s near.port) p has h (sym e)))

-- the table of the connections before which another one is entered
pub entered : (cs some : List Connection) (n : ℕ) (ends : List ConnectionEnd) (c : Connection) → Has cs (joined_port Output c) → Has cs (joined_port Input c)
    → port_index cs (joined_port Output c) < length ends → port_index cs (joined_port Input c) < length (set ends (port_index cs (joined_port Output c)) (end_of Input c)) → Leads cs some n ends
    → Leads cs (c ∷ some) n (set (set ends (port_index cs (joined_port Output c)) (end_of Input c)) (port_index cs (joined_port Input c)) (end_of Output c))
entered cs some n ends c out into out_in into_in leads Output at number h = go (is_port (end_of Output c) at number) refl
  where
    first_set : List ConnectionEnd
    first_set = set ends (port_index cs (joined_port Output c)) (end_of Input c)

    past-second : get_or (set first_set (port_index cs (joined_port Input c)) (end_of Output c)) (port_index cs (port at Output number)) (nowhere n) ≡ get_or first_set (port_index cs (port at Output number)) (nowhere n)
    past-second = entered-other cs n first_set Input (end_of Input c) (end_of Output c) into into_in (port at Output number) h (λ e. side-apart (ap (λ (p : Port). p.side) e))

    go : (b : Bool) → is_port (end_of Output c) at number ≡ b → get_or (set first_set (port_index cs (joined_port Input c)) (end_of Output c)) (port_index cs (port at Output number)) (nowhere n) ≡ far_of n (if b then Some (end_of Input c) else joined_at Output some at number)
    go true e = past-second ∙ entered-same cs n ends Output (end_of Output c) (end_of Input c) out out_in at number e
    go false e = past-second ∙ entered-other cs n ends Output (end_of Output c) (end_of Input c) out out_in (port at Output number) h (λ q. false≢true (sym e ∙ same-port (end_of Output c) at number Output q)) ∙ leads Output at number h
entered cs some n ends c out into out_in into_in leads Input at number h = go (is_port (end_of Input c) at number) refl
  where
    first_set : List ConnectionEnd
    first_set = set ends (port_index cs (joined_port Output c)) (end_of Input c)

    go : (b : Bool) → is_port (end_of Input c) at number ≡ b → get_or (set first_set (port_index cs (joined_port Input c)) (end_of Output c)) (port_index cs (port at Input number)) (nowhere n) ≡ far_of n (if b then Some (end_of Output c) else joined_at Input some at number)
    go true e = entered-same cs n first_set Input (end_of Input c) (end_of Output c) into into_in at number e
    go false e =
        entered-other cs n first_set Input (end_of Input c) (end_of Output c) into into_in (port at Input number) h (λ q. false≢true (sym e ∙ same-port (end_of Input c) at number Input q))
        ∙ entered-other cs n ends Output (end_of Output c) (end_of Input c) out out_in (port at Input number) h (λ e. side-apart (sym (ap (λ (p : Port). p.side) e))) ∙ leads Input at number h

-- no connection is entered
pub nothing_leads : (cs : List Connection) (n : ℕ) (ends : List ConnectionEnd) → ((k : ℕ) → get_or ends k (nowhere n) ≡ nowhere n) → Leads cs [] n ends
nothing_leads cs n ends h Output at number l = h (port_index cs (port at Output number))
nothing_leads cs n ends h Input at number l = h (port_index cs (port at Input number))

-- the part of the table for the ports of a side
pub row_at : (net : Net) (ends : List ConnectionEnd) (at : ℕ) (s : Side) (number : ℕ) → IsTable net ends
    → get_or (take (used net.connections at s) (drop (port_index net.connections (port at s 0)) ends)) number (nowhere (length net.shapes)) ≡ far_at net s at number
row_at net ends at s number table =
    let cs = net.connections in let n = length net.shapes in let start = port_index cs (port at s 0) in
    elim (cases_lt number (used cs at s)) [
      | inl l ↦ (
          let next : start + number ≡ port_index cs (port at s number) = omega arith in
          get_or-take (used cs at s) (drop start ends) number (nowhere n) l ∙ get_or-drop start ends number (nowhere n) ∙ ap (λ k. get_or ends k (nowhere n)) next ∙ table s at number l)
      | inr l ↦ (
          let short : length (take (used cs at s) (drop start ends)) ≤ used cs at s = omega (arith, length-take (used cs at s) (drop start ends)) in
          get_or_past (take (used cs at s) (drop start ends)) number (nowhere n) (omega (arith, short, l)) ∙ sym (ap (far_of n) (unused s cs at number (omega (arith, l)))))
    ]

-- the first port of each element
first_read : (net : Net) (s : Side) (at : ℕ) → AreBetween (length net.shapes) net.connections → get_or (map (first_at net s) (range_with_len 0 (length net.shapes))) at (nowhere (length net.shapes)) ≡ first_at net s at
first_read net s at all =
    let n = length net.shapes in
    elim (cases_lt at n) [
      | inl l ↦ get_or-map-range_with_len (first_at net s) 0 n at at (nowhere n) l (omega arith)
      | inr l ↦ (
          let past_end : length (map (first_at net s) (range_with_len 0 n)) ≤ at = omega (arith, length-map-range_with_len (first_at net s) 0 n, l) in
          get_or_past (map (first_at net s) (range_with_len 0 n)) at (nowhere n) past_end ∙ sym (ap (far_of n) (unused-past n s net.connections at 0 all (omega (arith, l)))))
    ]

pub firsts_are : (net : Net) (s : Side) (ends : List ConnectionEnd) → AreBetween (length net.shapes) net.connections → ends ≡ map (first_at net s) (range_with_len 0 (length net.shapes))
    → AreFirst (length net.shapes) ends (joined_at s net.connections)
firsts_are net s ends all is at = rw is (first_read net s at all)

-- the elements of some ends in one list, and their ports in another
apart_at : (n : ℕ) (ends : List ConnectionEnd) (at : ℕ) → end_apart n (map element_of ends) (map port_of ends) at ≡ get_or ends at (nowhere n)
apart_at n [] at = refl
apart_at n (end ∷ ends) zero = refl
apart_at n (end ∷ ends) (suc at) = apart_at n ends at

pub firsts_apart : (net : Net) (s : Side) (ends : List ConnectionEnd) (places ports : List ℕ) → AreBetween (length net.shapes) net.connections → ends ≡ map (first_at net s) (range_with_len 0 (length net.shapes))
    → places ≡ map element_of ends → ports ≡ map port_of ends → AreFirstTargets (length net.shapes) places ports (joined_at s net.connections)
firsts_apart net s ends places ports all is at_places at_ports at = rw (at_places, at_ports) (apart_at (length net.shapes) ends at ∙ firsts_are net s ends all is at)

-- the connections lead to existing elements
joined-within : (n : ℕ) (far : Side) (b : Bool) (c : Connection) (o : Option ConnectionEnd) → (c.from < n) × (c.to < n) → IfSome o (λ p. p.element < n)
    → IfSome (if b then Some (end_of far c) else o) (λ p. p.element < n)
joined-within n Input true c o here rest = here.1
joined-within n Output true c o here rest = here.0
joined-within n far false c o here rest = rest

pub joined_within : (n : ℕ) (near far : Side) (cs : List Connection) → All (λ (c : Connection). (c.from < n) × (c.to < n)) cs → AreWithin n (first_joined near far cs)
joined_within n near far [] all at number = tt
joined_within n near far (c ∷ cs) all at number =
    joined-within n far (is_port (end_of near c) at number) c (first_joined near far cs at number) (all 0 c (omega arith)) (joined_within n near far cs (λ i d l. all (suc i) d (omega (arith, l))) at number)

pub far_within : (n : ℕ) (o : Option ConnectionEnd) (far : ConnectionEnd) → IfSome o (λ p. p.element < n) → far ≡ far_of n o → far.element ≤ n
far_within n None far h is = let at = ap (λ (p : ConnectionEnd). p.element) is in omega (arith, at)
far_within n (Some p) far h is = let at = ap (λ (q : ConnectionEnd). q.element) is in omega (arith, at, h)
