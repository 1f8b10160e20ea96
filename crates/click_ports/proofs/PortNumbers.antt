-- The numbers of ports.
use Rattle.std.proofs.Common.{◌≡◌, ◌⊎◌, inl, inr, ℕ, ◌+◌, ◌<◌, ◌≤◌, suc, zero, List, [], ◌∷◌, ◌++◌, length, get_or, Some, refl, sym, ap, ◌∙◌, subst, arith, append_assoc, append-nil, add-zero}
use Rattle.std.specs.List.{slice_get}
use Rattle.std.proofs.lemmas.List.{length_push}
use Rattle.std.proofs.lemmas.Option.{same_Some, none-some, slice_get_read}
use Rattle.std.proofs.lemmas.Bool.{cases_order, cases_lt}
use Rattle.click_classes.specs.declared.ports.Side.{Side}
use Rattle.click_classes.specs.declared.ports.Side.TheVariants.{Input, Output}
use Rattle.click_expand.specs.declared.flat.Connection.{Connection}
use Rattle.click_ports.specs.declared.numbering.Block.{Block}
use Rattle.click_ports.specs.declared.port.Port.{Port}
use Rattle.click_ports.specs.declared.shape.Shape.{Shape}
use Rattle.click_ports.specs.Ports.{used, Has, first, ahead, port_index}
use Rattle.click_ports.specs.kept.LaidOut.{IsLaidOut}
use Rattle.click_ports.specs.Breaches.{PortBefore, side_rank}
use Rattle.click_ports.specs.kept.Numbered.{side_ports}
use Rattle.click_ports.specs.kept.Wiring.{Wiring, ahead_in, count_in, block_of, InPlace, AreNumbered}
use Rattle.click_ports.proofs.PortUses.{has-within}

-- the item at an index of a list with one more item
pub push_get : {X : Type 0} (xs : List X) (y : X) (x : ℕ) (q : X) → slice_get (xs ++ y ∷ []) x ≡ Some q → (slice_get xs x ≡ Some q) ⊎ ((x ≡ length xs) × (q ≡ y))
push_get [] y zero q h = inr (refl, sym (same_Some y q h))
push_get [] y (suc x) q h = absurd (none-some q h)
push_get (a ∷ xs) y zero q h = inl h
push_get (a ∷ xs) y (suc x) q h = elim (push_get xs y x q h) [ inl e ↦ inl e | inr e ↦ inr (ap suc e.0, e.1) ]

pub place-push : (cs : List Connection) (ports : List Port) (p : Port) → InPlace cs ports → Has cs p → port_index cs p ≡ length ports → InPlace cs (ports ++ p ∷ [])
place-push cs ports p k has is x q h = elim (push_get ports p x q h) [
  | inl e ↦ k x q e
  | inr e ↦ subst (λ (r : Port). Has cs r × (port_index cs r ≡ x)) (sym e.1) (has, is ∙ sym e.0)
]

-- n ports of a side, after those before them
pub place-side : (cs : List Connection) (ports : List Port) (e : ℕ) (s : Side) (n : ℕ) → InPlace cs ports → length ports ≡ first cs e + ahead cs e s → n ≤ used cs e s →
    InPlace cs (ports ++ side_ports e s n) × (length (ports ++ side_ports e s n) ≡ first cs e + ahead cs e s + n)
place-side cs ports e s zero k l m = (λ x q h. k x q (subst (λ xs. slice_get xs x ≡ Some q) (append-nil ports) h), ap length (append-nil ports) ∙ l ∙ sym (add-zero _))
place-side cs ports e s (suc n) k l m =
    let front = place-side cs ports e s n k l (omega (arith, m)) in
    let p : Port = record { element = e; side = s; number = n } in
    let is : (ports ++ side_ports e s n) ++ p ∷ [] ≡ ports ++ side_ports e s (suc n) = append_assoc ports (side_ports e s n) (p ∷ []) in (
      subst (InPlace cs) is (place-push cs (ports ++ side_ports e s n) p front.0 (omega (arith, m)) (sym front.1)),
      ap length (sym is) ∙ length_push (ports ++ side_ports e s n) p ∙ ap (λ x. x + 1) front.1 ∙ (let q : (first cs e + ahead cs e s + n) + 1 ≡ first cs e + ahead cs e s + suc n = omega arith in q),
    )

-- one more element
pub numbered-more : (cs : List Connection) (e i o : ℕ) (blocks : List Block) (ports : List Port) → AreNumbered cs e blocks ports → i ≡ used cs e Input → o ≡ used cs e Output → i ≤ 256 → o ≤ 256 →
    AreNumbered cs (suc e) (blocks ++ record { first = length ports; inputs = i; outputs = o } ∷ []) ((ports ++ side_ports e Input i) ++ side_ports e Output o)
numbered-more cs e i o blocks ports k p q m n =
    let b : Block = record { first = length ports; inputs = i; outputs = o } in
    let ins = place-side cs ports e Input i k.ports_right (k.all_ports ∙ sym (add-zero _)) (omega (arith, p)) in
    let outs = place-side cs (ports ++ side_ports e Input i) e Output o ins.0 (ins.1 ∙ (let r : first cs e + 0 + i ≡ first cs e + used cs e Input = omega (arith, p) in r)) (omega (arith, q)) in
    let same : b ≡ block_of cs e = block_same cs e (length ports) i o k.all_ports p q in
    record {
      all_blocks = length_push blocks b ∙ ap (λ x. x + 1) k.all_blocks ∙ (let r : e + 1 ≡ suc e = omega arith in r);
      blocks_right = λ x a h. elim (push_get blocks b x a h) [
        | inl t ↦ k.blocks_right x a t
        | inr t ↦ t.1 ∙ same ∙ ap (block_of cs) (sym (t.0 ∙ k.all_blocks))
      ];
      all_ports = outs.1 ∙ (let r : first cs e + used cs e Input + o ≡ first cs e + (used cs e Input + used cs e Output) = omega (arith, q) in r);
      ports_right = outs.0;
      small = λ x t l. elim (cases_lt x e) [
        | inl b ↦ k.small x t b
        | inr b ↦ (let here : x ≡ e = omega (arith, l, b) in subst (λ y. used cs y t ≤ 256) (sym here) (small_sides cs e t (subst (λ y. y ≤ 256) p m) (subst (λ y. y ≤ 256) q n)))
      ];
    }
  where
    small_sides : (cs : List Connection) (e : ℕ) (t : Side) → used cs e Input ≤ 256 → used cs e Output ≤ 256 → used cs e t ≤ 256
    small_sides cs e Input a b = a
    small_sides cs e Output a b = b

    block_same : (cs : List Connection) (e f i o : ℕ) → f ≡ first cs e → i ≡ used cs e Input → o ≡ used cs e Output →
        ◌≡◌ {A = Block} (record { first = f; inputs = i; outputs = o }) (block_of cs e)
    block_same cs e f i o r p q = cc

-- one more element, for the lists that the code makes
pub numbered-made : (cs : List Connection) (e i o f : ℕ) (blocks made : List Block) (ports some all : List Port) → AreNumbered cs e blocks ports → i ≡ used cs e Input → o ≡ used cs e Output → i ≤ 256 → o ≤ 256 →
    f ≡ length ports → made ≡ blocks ++ record { first = f; inputs = i; outputs = o } ∷ [] → some ≡ ports ++ side_ports e Input i → all ≡ some ++ side_ports e Output o →
    AreNumbered cs (e + 1) made all
numbered-made cs e i o f blocks made ports some all k p q m n is a b d =
    let next : e + 1 ≡ suc e = omega arith in
    let a' : made ≡ blocks ++ record { first = length ports; inputs = i; outputs = o } ∷ [] = a ∙ ap (λ y. blocks ++ record { first = y; inputs = i; outputs = o } ∷ []) is in
    let d' : all ≡ (ports ++ side_ports e Input i) ++ side_ports e Output o = d ∙ ap (λ xs. xs ++ side_ports e Output o) b in
    subst (λ y. AreNumbered cs y made all) (sym next)
    (subst (λ bs. AreNumbered cs (suc e) bs all) (sym a')
    (subst (λ ps. AreNumbered cs (suc e) (blocks ++ record { first = length ports; inputs = i; outputs = o } ∷ []) ps) (sym d') (numbered-more cs e i o blocks ports k p q m n)))

pub first-le : (cs : List Connection) (e n : ℕ) → e ≤ n → first cs e ≤ first cs n
first-le cs e zero h = let q : e ≡ 0 = omega (arith, h) in subst (λ x. first cs x ≤ 0) (sym q) (omega arith)
first-le cs e (suc n) h = elim (cases_lt e (suc n)) [
  | inl l ↦ (let k : first cs e ≤ first cs n = first-le cs e n (omega (arith, l)) in omega (arith, k))
  | inr l ↦ (let q : e ≡ suc n = omega (arith, h, l) in subst (λ x. first cs e ≤ first cs x) q (omega arith))
]

number-ends : (cs : List Connection) (e : ℕ) (s : Side) (k : ℕ) → k < used cs e s → first cs e + ahead cs e s + k < first cs (suc e)
number-ends cs e Input k h = omega (arith, h)
number-ends cs e Output k h = omega (arith, h)

side-ends : (cs : List Connection) (e : ℕ) (s : Side) → first cs e + ahead cs e s + used cs e s ≤ first cs (suc e)
side-ends cs e Input = omega arith
side-ends cs e Output = omega arith

-- the number of a port is below the number of all ports of the elements
pub number-within : (cs : List Connection) (n : ℕ) (p : Port) → Has cs p → p.element < n → port_index cs p < first cs n
number-within cs n p h l =
    let a : port_index cs p < first cs (suc p.element) = number-ends cs p.element p.side p.number h in
    let b : first cs (suc p.element) ≤ first cs n = first-le cs (suc p.element) n (omega (arith, l)) in
    omega (arith, a, b)

-- the ports of an earlier element have lower numbers
number-apart : (cs : List Connection) (p q : Port) → Has cs p → p.element < q.element → port_index cs p < port_index cs q
number-apart cs p q h l = let a : port_index cs p < first cs q.element = number-within cs q.element p h l in omega (arith, a)

same_in : (cs : List Connection) (e : ℕ) (s t : Side) (k l : ℕ) → k < used cs e s → l < used cs e t → first cs e + ahead cs e s + k ≡ first cs e + ahead cs e t + l → (s ≡ t) × (k ≡ l)
same_in cs e Input Input k l h m q = (refl, omega (arith, q))
same_in cs e Output Output k l h m q = (refl, omega (arith, q))
same_in cs e Input Output k l h m q = absurd (omega (arith, h, q))
same_in cs e Output Input k l h m q = absurd (omega (arith, m, q))

pub same_port : (p q : Port) → p.element ≡ q.element → p.side ≡ q.side → p.number ≡ q.number → p ≡ q
same_port p q a b d =
    let made : ℕ → Side → ℕ → Port = λ e s n. record { element = e; side = s; number = n } in
    ap (λ e. made e p.side p.number) a ∙ ap (λ s. made q.element s p.number) b ∙ ap (λ n. made q.element q.side n) d

-- ports with the same number are the same
pub number-same : (cs : List Connection) (p q : Port) → Has cs p → Has cs q → port_index cs p ≡ port_index cs q → p ≡ q
number-same cs p q h k same = elim (cases_order p.element q.element) [
  | inl e ↦ (
      let k' : q.number < used cs p.element q.side = subst (λ x. q.number < used cs x q.side) (sym e) k in
      let r = same_in cs p.element p.side q.side p.number q.number h k' (same ∙ ap (λ x. first cs x + ahead cs x q.side + q.number) (sym e)) in
      same_port p q e r.0 r.1)
  | inr (inl l) ↦ (let a : port_index cs p < port_index cs q = number-apart cs p q h l in absurd (omega (arith, a, same)))
  | inr (inr l) ↦ (let a : port_index cs q < port_index cs p = number-apart cs q p k l in absurd (omega (arith, a, same)))
]

side_before : (cs : List Connection) (e : ℕ) (s t : Side) (k l : ℕ) → k < used cs e s → side_rank s < side_rank t → first cs e + ahead cs e s + k < first cs e + ahead cs e t + l
side_before cs e Input Output k l h r = omega (arith, h)
side_before cs e Input Input k l h r = absurd (omega (arith, r))
side_before cs e Output Input k l h r = absurd (omega (arith, r))
side_before cs e Output Output k l h r = absurd (omega (arith, r))

-- a port that comes before another has a lower number
pub number-before : (cs : List Connection) (p q : Port) → Has cs p → PortBefore p q → port_index cs p < port_index cs q
number-before cs p q h (inl l) = number-apart cs p q h l
number-before cs p q h (inr (e, inl l)) =
    subst (λ x. port_index cs p < first cs x + ahead cs x q.side + q.number) e (side_before cs p.element p.side q.side p.number q.number h l)
number-before cs p q h (inr (e, inr (s, l))) =
    subst (λ x. port_index cs p < first cs x + ahead cs x q.side + q.number) e
    (subst (λ t. port_index cs p < first cs p.element + ahead cs p.element t + q.number) s (omega (arith, l)))

pub ahead-block : (cs : List Connection) (e : ℕ) (b : Block) (s : Side) → b ≡ block_of cs e → ahead_in b s ≡ ahead cs e s
ahead-block cs e b Input h = refl
ahead-block cs e b Output h = ap (λ (x : Block). x.inputs) h

pub count-block : (cs : List Connection) (e : ℕ) (b : Block) (s : Side) → b ≡ block_of cs e → count_in b s ≡ used cs e s
count-block cs e b Input h = ap (λ (x : Block). x.inputs) h
count-block cs e b Output h = ap (λ (x : Block). x.outputs) h

pub place_number : (cs : List Connection) (b : Block) (p : Port) (a : ℕ) → b ≡ block_of cs p.element → a ≡ ahead_in b p.side → b.first + a + p.number ≡ port_index cs p
place_number cs b p a h k = ap (λ x. b.first + x + p.number) (k ∙ ahead-block cs p.element b p.side h) ∙ ap (λ (x : Block). x.first + ahead cs p.element p.side + p.number) h

-- the invariant of a layout, for its value in contracts
pub laid-seen : (w : Wiring) (ss : List Shape) (cs : List Connection) (blocks : List Block) (ports : List Port) → ◌≡◌ {A = Wiring} (record { shapes = ss; connections = cs }) w →
    IsLaidOut ss cs blocks ports → IsLaidOut w.shapes w.connections blocks ports
laid-seen w ss cs blocks ports h k = subst (λ (v : Wiring). IsLaidOut v.shapes v.connections blocks ports) h k

pub block-read : (ss : List Shape) (cs : List Connection) (blocks : List Block) (ports : List Port) (e : ℕ) (b : Block) → IsLaidOut ss cs blocks ports → e < length ss → b ≡ get_or blocks e b → b ≡ block_of cs e
block-read ss cs blocks ports e b k l h = k.numbered.blocks_right e b (slice_get_read blocks (length blocks) e b refl (omega (arith, l, k.numbered.all_blocks)) h)

pub used-read : (ss : List Shape) (cs : List Connection) (blocks : List Block) (ports : List Port) (e : ℕ) (b : Block) (s : Side) (n : ℕ) → IsLaidOut ss cs blocks ports → e < length ss → b ≡ get_or blocks e b → n ≡ count_in b s →
    (n ≡ used cs e s) × (n ≤ 256)
used-read ss cs blocks ports e b s n k l h c =
    let is : n ≡ used cs e s = c ∙ count-block cs e b s (block-read ss cs blocks ports e b k l h) in
    (is, subst (λ x. x ≤ 256) (sym is) (k.numbered.small e s l))

-- the number of a first port, and the ports that follow it
pub first-read : (ss : List Shape) (cs : List Connection) (blocks : List Block) (ports : List Port) (e : ℕ) (s : Side) (b : Block) (a : ℕ) → IsLaidOut ss cs blocks ports → e < length ss → b ≡ get_or blocks e b → a ≡ ahead_in b s →
    (b.first + a ≡ port_index cs (record { element = e; side = s; number = 0 })) × (b.first + a + used cs e s ≤ first cs (length ss)) × (first cs (length ss) ≡ length ports)
first-read ss cs blocks ports e s b a k l r c =
    let p : Port = record { element = e; side = s; number = 0 } in
    let is : b.first + a + 0 ≡ port_index cs p = place_number cs b p a (block-read ss cs blocks ports e b k l r) c in
    let last : first cs (suc e) ≤ first cs (length ss) = first-le cs (suc e) (length ss) (omega (arith, l)) in
    (omega (arith, is), omega (arith, is, side-ends cs e s, last), sym k.numbered.all_ports)

pub number-read : (ss : List Shape) (cs : List Connection) (blocks : List Block) (ports : List Port) (p : Port) (b : Block) (a : ℕ) → IsLaidOut ss cs blocks ports → Has cs p → b ≡ get_or blocks p.element b → a ≡ ahead_in b p.side →
    (b.first + a + p.number ≡ port_index cs p) × (port_index cs p < length ports)
number-read ss cs blocks ports p b a k h r c =
    let l : p.element < length ss = has-within (length ss) cs p k.within h in
    let below : port_index cs p < first cs (length ss) = number-within cs (length ss) p h l in
    (place_number cs b p a (block-read ss cs blocks ports p.element b k l r) c, omega (arith, below, k.numbered.all_ports))
