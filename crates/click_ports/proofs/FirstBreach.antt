-- The first breach.
use Rattle.std.proofs.Common.{◌≡◌, inl, inr, ℕ, ◌+◌, ◌<◌, ◌≤◌, List, [], ◌∷◌, length, get_or, Bool, true, false, Some, cond, refl, sym, ap, ◌∙◌, subst, arith}
use Rattle.std.specs.List.{slice_get}
use Rattle.std.proofs.lemmas.List.{get_or_default}
use Rattle.std.proofs.lemmas.List.Recursion.{is_count_by}
use Rattle.std.proofs.lemmas.Bool.{cases_lt}
use Rattle.std.proofs.lemmas.Option.{same_Some, slice_get_within}
use Rattle.click_classes.specs.declared.ports.Counts.{Counts}
use Rattle.click_classes.specs.declared.ports.Code.TheVariants.{Pull}
use Rattle.click_classes.specs.declared.ports.Side.{Side}
use Rattle.click_classes.specs.declared.ports.Side.TheVariants.{Input, Output}
use Rattle.click_expand.specs.declared.flat.Connection.{Connection}
use Rattle.click_ports.specs.declared.fault.FaultKind.TheVariants as kind
use Rattle.click_ports.specs.declared.fault.PortFault.{PortFault}
use Rattle.click_ports.specs.declared.port.Port.{Port}
use Rattle.click_ports.specs.declared.shape.Shape.{Shape}
use Rattle.click_ports.specs.Ports.{used, Has, uses, joins, input, output, first, port_index}
use Rattle.click_ports.specs.Kinds.{IsMixed, IsSingle, push_output, pull_input}
use Rattle.click_ports.specs.Lawful.{IsCounted, AllCounted, AllConnected, NoneMixed, AllSingle}
use Rattle.click_ports.specs.Breaches.{IsMiscounted, inputs_out, outputs_out, unequal, fault_at, count_fault, IsBreach, count, unused, mixed, twice, side_rank, PortBefore, BreachBefore, IsFirstBreach}
use Rattle.click_ports.specs.kept.Ends.{far_end, far_ends, AreFarEnds}
use Rattle.click_ports.specs.kept.Marks.{AreMarks, is_single}
use Rattle.click_ports.specs.kept.Wiring.{Wiring, AreWithin}
use Rattle.click_ports.proofs.PortNumbers.{number-before, number-same, number-within}
use Rattle.click_ports.proofs.PortUses.{has-within}

-- allowed numbers are no breach
pub counted-right : (c : Counts) (i o : ℕ) (s : Side) → IsCounted c i o → IsMiscounted c i o s → ⊥
counted-right c i o s k (inputs_out h) = h k.inputs_in
counted-right c i o s k (outputs_out a h) = h k.outputs_in
counted-right c i o s k (unequal a b e h) = h (k.equal e)

-- numbers that are not allowed are found at one side only
pub one-side : (c : Counts) (i o : ℕ) (s t : Side) → IsMiscounted c i o s → IsMiscounted c i o t → s ≡ t
one-side c i o s t (inputs_out h) (inputs_out g) = refl
one-side c i o s t (inputs_out h) (outputs_out a g) = absurd (h a)
one-side c i o s t (inputs_out h) (unequal a b e g) = refl
one-side c i o s t (outputs_out a h) (inputs_out g) = absurd (g a)
one-side c i o s t (outputs_out a h) (outputs_out b g) = refl
one-side c i o s t (outputs_out a h) (unequal b d e g) = absurd (h d)
one-side c i o s t (unequal a b e h) (inputs_out g) = refl
one-side c i o s t (unequal a b e h) (outputs_out d g) = absurd (g b)
one-side c i o s t (unequal a b e h) (unequal d f g k) = refl

not_before : (p : Port) → PortBefore p p → ⊥
not_before p (inl l) = omega (arith, l)
not_before p (inr (e, inl l)) = omega (arith, l)
not_before p (inr (e, inr (s, l))) = omega (arith, l)

-- no breach comes before the first element whose numbers are not allowed
pub first-count : (ss : List Shape) (cs : List Connection) (e : ℕ) (shape : Shape) (s : Side) → slice_get ss e ≡ Some shape → IsMiscounted shape.counts (used cs e Input) (used cs e Output) s →
    ((d : ℕ) (t : Shape) → d < e → slice_get ss d ≡ Some t → IsCounted t.counts (used cs d Input) (used cs d Output)) → IsFirstBreach ss cs (count_fault cs e s)
first-count ss cs e shape s h m front = record { breach = count e shape s h m; first = none }
  where
    none : (g : PortFault) → IsBreach ss cs g → BreachBefore g (count_fault cs e s) → ⊥
    none g (count d t u k n) (inl l) = omega (arith, l)
    none g (count d t u k n) (inr (a, inl l)) = counted-right t.counts (used cs d Input) (used cs d Output) u (front d t l k) n
    none g (count d t u k n) (inr (a, inr (b, l))) =
        let t' : slice_get ss e ≡ Some t = subst (λ x. slice_get ss x ≡ Some t) b k in
        let same : t ≡ shape = same_Some t shape (sym t' ∙ h) in
        let n' : IsMiscounted shape.counts (used cs e Input) (used cs e Output) u =
        subst (λ (x : Shape). IsMiscounted x.counts (used cs e Input) (used cs e Output) u) same (subst (λ x. IsMiscounted t.counts (used cs x Input) (used cs x Output) u) b n) in
        let side : u ≡ s = one-side shape.counts (used cs e Input) (used cs e Output) u s n' m in
        elim l [
          | inl r ↦ (let q : side_rank u ≡ side_rank s = ap side_rank side in omega (arith, r, q))
          | inr r ↦ (let q : used cs d u ≡ used cs e s = ap (λ x. used cs x u) b ∙ ap (used cs e) side in let v = r.1 in omega (arith, v, q))
        ]
    none g (unused p k n) (inl l) = omega (arith, l)
    none g (unused p k n) (inr (a, l)) = cc a
    none g (mixed p k n) (inl l) = omega (arith, l)
    none g (mixed p k n) (inr (a, l)) = cc a
    none g (twice p k n o) (inl l) = omega (arith, l)
    none g (twice p k n o) (inr (a, l)) = cc a

-- the elements with lower indices have allowed numbers
abbrev pub CountedBelow : List Shape → List Connection → ℕ → Type 0
CountedBelow ss cs e = (d : ℕ) (t : Shape) → d < e → slice_get ss d ≡ Some t → IsCounted t.counts (used cs d Input) (used cs d Output)

pub counted-next : (ss : List Shape) (cs : List Connection) (e i o : ℕ) (shape : Shape) → slice_get ss e ≡ Some shape → i ≡ used cs e Input → o ≡ used cs e Output → IsCounted shape.counts i o →
    CountedBelow ss cs e → CountedBelow ss cs (e + 1)
counted-next ss cs e i o shape h p q k front d t l g = elim (cases_lt d e) [
  | inl b ↦ front d t b g
  | inr b ↦ (
      let here : d ≡ e = omega (arith, l, b) in
      let same : shape ≡ t = same_Some shape t (sym h ∙ subst (λ x. slice_get ss x ≡ Some t) here g) in
      let made : IsCounted shape.counts (used cs e Input) (used cs e Output) = subst (λ y. IsCounted shape.counts (used cs e Input) y) q (subst (λ x. IsCounted shape.counts x o) p k) in
      subst (λ (x : Shape). IsCounted x.counts (used cs d Input) (used cs d Output)) same (subst (λ x. IsCounted shape.counts (used cs x Input) (used cs x Output)) (sym here) made))
]

pub counted-all : (ss : List Shape) (cs : List Connection) (e : ℕ) → length ss ≤ e → CountedBelow ss cs e → AllCounted ss cs
counted-all ss cs e l front d t g = front d t (let b = slice_get_within ss d t g in omega (arith, b, l)) g

pub count-told : (ss : List Shape) (cs : List Connection) (e i o n : ℕ) (shape : Shape) (s : Side) → slice_get ss e ≡ Some shape → i ≡ used cs e Input → o ≡ used cs e Output → n ≡ used cs e s →
    IsMiscounted shape.counts i o s → CountedBelow ss cs e → IsFirstBreach ss cs (record { kind = kind.Count; element = e; side = s; number = n })
count-told ss cs e i o n shape s h p q r m front =
    let m' : IsMiscounted shape.counts (used cs e Input) (used cs e Output) s =
    subst (λ y. IsMiscounted shape.counts (used cs e Input) y s) q (subst (λ x. IsMiscounted shape.counts x o s) p m) in
    subst (λ x. IsFirstBreach ss cs (record { kind = kind.Count; element = e; side = s; number = x })) (sym r) (first-count ss cs e shape s h m' front)

module _ (ss : List Shape) (cs : List Connection) (counted : AllCounted ss cs) where
  no_count : (e : ℕ) (t : Shape) (s : Side) → slice_get ss e ≡ Some t → IsMiscounted t.counts (used cs e Input) (used cs e Output) s → ⊥
  no_count e t s h m = counted-right t.counts (used cs e Input) (used cs e Output) s (counted e t h) m

  -- no breach comes before the first port without a connection
  pub first-unused : (p : Port) → Has cs p → uses cs p ≡ 0 → ((q : Port) → Has cs q → port_index cs q < port_index cs p → 0 < uses cs q) → IsFirstBreach ss cs (fault_at kind.Unused p)
  first-unused p h z front = record { breach = unused p h z; first = none }
    where
      none : (g : PortFault) → IsBreach ss cs g → BreachBefore g (fault_at kind.Unused p) → ⊥
      none g (count d t u k n) b = no_count d t u k n
      none g (unused q k n) (inl l) = omega (arith, l)
      none g (unused q k n) (inr (a, l)) = let f = front q k (number-before cs q p k l) in omega (arith, f, n)
      none g (mixed q k n) (inl l) = omega (arith, l)
      none g (mixed q k n) (inr (a, l)) = cc a
      none g (twice q k n o) (inl l) = omega (arith, l)
      none g (twice q k n o) (inr (a, l)) = cc a

  module _ (connected : AllConnected cs) where
    no_unused : (q : Port) → Has cs q → uses cs q ≡ 0 → ⊥
    no_unused q h z = let c = connected q h in omega (arith, c, z)

    -- no breach comes before the first mixed port
    pub first-mixed : (p : Port) → Has cs p → IsMixed ss cs p → ((q : Port) → Has cs q → port_index cs q < port_index cs p → IsMixed ss cs q → ⊥) → IsFirstBreach ss cs (fault_at kind.Mixed p)
    first-mixed p h m front = record { breach = mixed p h m; first = none }
      where
        none : (g : PortFault) → IsBreach ss cs g → BreachBefore g (fault_at kind.Mixed p) → ⊥
        none g (count d t u k n) b = no_count d t u k n
        none g (unused q k n) b = no_unused q k n
        none g (mixed q k n) (inl l) = omega (arith, l)
        none g (mixed q k n) (inr (a, l)) = front q k (number-before cs q p k l) n
        none g (twice q k n o) (inl l) = omega (arith, l)
        none g (twice q k n o) (inr (a, l)) = cc a

    -- no breach comes before the first port with two connections
    pub first-twice : NoneMixed ss cs → (p : Port) → Has cs p → IsSingle ss cs p → 1 < uses cs p →
        ((q : Port) → Has cs q → port_index cs q < port_index cs p → IsSingle ss cs q → 1 < uses cs q → ⊥) → IsFirstBreach ss cs (fault_at kind.Twice p)
    first-twice unmixed p h s m front = record { breach = twice p h s m; first = none }
      where
        none : (g : PortFault) → IsBreach ss cs g → BreachBefore g (fault_at kind.Twice p) → ⊥
        none g (count d t u k n) b = no_count d t u k n
        none g (unused q k n) b = no_unused q k n
        none g (mixed q k n) b = unmixed q k n
        none g (twice q k n o) (inl l) = omega (arith, l)
        none g (twice q k n o) (inr (a, l)) = front q k (number-before cs q p k l) n o

    -- a port that does not have two connections has one
    pub all-single : ((q : Port) → Has cs q → IsSingle ss cs q → 1 < uses cs q → ⊥) → AllSingle ss cs
    all-single h p k s = elim (cases_lt 1 (uses cs p)) [
      | inl l ↦ absurd (h p k s l)
      | inr l ↦ (let c = connected p k in omega (arith, l, c))
    ]

length_by : (b : Bool) (n : ℕ) (row : List ℕ) → length (cond b (n ∷ row) row) ≡ cond b (1 + length row) (length row)
length_by true n row = omega arith
length_by false n row = refl

-- a port has as many connections as other ends
pub length-far_ends : (cs : List Connection) (p : Port) → length (far_ends cs cs p) ≡ uses cs p
length-far_ends cs p = is_count_by (λ some. length (far_ends cs some p)) (joins p) refl (λ c some. length_by (joins p c) (far_end cs p c) (far_ends cs some p)) cs

-- what holds of the port with number n, and of those below it, holds of those below n + 1
pub next-port : (cs : List Connection) (p : Port) (n : ℕ) (P : Port → Type 0) → Has cs p → port_index cs p ≡ n → P p → ((q : Port) → Has cs q → port_index cs q < n → P q) → (q : Port) → Has cs q → port_index cs q < n + 1 → P q
next-port cs p n P h e here front q k l = elim (cases_lt (port_index cs q) n) [
  | inl b ↦ front q k b
  | inr b ↦ subst P (number-same cs p q h k (let s : port_index cs q ≡ n = omega (arith, l, b) in e ∙ sym s)) here
]

pub all-ports : (w : Wiring) (n : ℕ) (P : Port → Type 0) → AreWithin (length w.shapes) w.connections → first w.connections (length w.shapes) ≤ n → ((q : Port) → Has w.connections q → port_index w.connections q < n → P q) →
    (q : Port) → Has w.connections q → P q
all-ports w n P i l h q k =
    h q k (let b = number-within w.connections (length w.shapes) q k (has-within (length w.shapes) w.connections q i k) in omega (arith, b, l))

-- the row at a port's number
pub uses-read : (w : Wiring) (ends : List (List ℕ)) (p : Port) (n len : ℕ) (row : List ℕ) → AreFarEnds w ends → Has w.connections p → port_index w.connections p ≡ n → n < length ends → row ≡ get_or ends n row → len ≡ length row →
    len ≡ uses w.connections p
uses-read w ends p n len row e h is l r q =
    q ∙ ap length (r ∙ get_or_default ends n row [] l ∙ ap (λ i. get_or ends i []) (sym is) ∙ e.right p h) ∙ length-far_ends w.connections p

-- the mark at a port's number
pub mark-read : (marks : List Bool) (n i : ℕ) (b : Bool) → i ≡ n → n < length marks → b ≡ get_or marks n b → get_or marks i false ≡ b
mark-read marks n i b e l r = ap (λ x. get_or marks x false) e ∙ get_or_default marks n false b l ∙ sym r

single_is : (w : Wiring) (pulls : List Bool) (e : ℕ) (s : Side) (k : ℕ) (b : Bool) → AreMarks w Pull pulls → Has w.connections (record { element = e; side = s; number = k }) →
    get_or pulls (port_index w.connections (record { element = e; side = s; number = k })) false ≡ b → is_single s b ≡ true → IsSingle w.shapes w.connections (record { element = e; side = s; number = k })
single_is w pulls e Input k b m h r t = pull_input e k ((m.right (input e k) h).0 (r ∙ t))
single_is w pulls e Output k true m h r t = absurd (cc t)
single_is w pulls e Output k false m h r t = push_output e k (λ i. let u = (m.right (output e k) h).1 i in let v : false ≡ true = sym r ∙ u in cc v)

pub single-is : (w : Wiring) (pulls : List Bool) (p : Port) (b : Bool) → AreMarks w Pull pulls → Has w.connections p → get_or pulls (port_index w.connections p) false ≡ b → is_single p.side b ≡ true → IsSingle w.shapes w.connections p
single-is w pulls p b m h r t = single_is w pulls p.element p.side p.number b m h r t

is_single_by : (w : Wiring) (pulls : List Bool) (p : Port) (b : Bool) → AreMarks w Pull pulls → Has w.connections p → get_or pulls (port_index w.connections p) false ≡ b → IsSingle w.shapes w.connections p → is_single p.side b ≡ true
is_single_by w pulls p b m h r (pull_input e k i) = sym r ∙ (m.right (input e k) h).1 i
is_single_by w pulls p true m h r (push_output e k i) = absurd (i ((m.right (output e k) h).0 r))
is_single_by w pulls p false m h r (push_output e k i) = refl

pub is-single : (w : Wiring) (pulls : List Bool) (p : Port) (b : Bool) → AreMarks w Pull pulls → Has w.connections p → get_or pulls (port_index w.connections p) false ≡ b → IsSingle w.shapes w.connections p → is_single p.side b ≡ true
is-single w pulls p b m h r s = is_single_by w pulls p b m h r s
