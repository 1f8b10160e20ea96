-- The laws of kinds and breaches.
use Rattle.std.proofs.Common.{◌≡◌, ◌⊎◌, inl, inr, ℕ, ◌<◌, ◌≤◌, List, Bool, true, refl, sym, ap, ◌∙◌, subst, arith, Contains}
use Rattle.std.specs.Prelude.{◌↔◌}
use Rattle.std.proofs.lemmas.Bool.{cases_order}
use Rattle.click_classes.specs.declared.ports.Code.{Code}
use Rattle.click_classes.specs.declared.ports.Code.TheVariants.{Push, Pull, Agnostic}
use Rattle.click_classes.specs.declared.ports.Side.{Side}
use Rattle.click_classes.specs.declared.ports.Side.TheVariants.{Input, Output}
use Rattle.click_expand.specs.declared.flat.Connection.{Connection}
use Rattle.click_ports.specs.declared.fault.FaultKind.{FaultKind}
use Rattle.click_ports.specs.declared.fault.FaultKind.TheVariants as kind
use Rattle.click_ports.specs.declared.fault.PortFault.{PortFault}
use Rattle.click_ports.specs.declared.port.Port.{Port}
use Rattle.click_ports.specs.declared.shape.Shape.{Shape}
use Rattle.click_ports.specs.Ports.{used, joined_port, Has, input, output}
use Rattle.click_ports.specs.Links.{code_at, IsAgnostic, IsFixed, Linked, along, against, through, back, Passes}
use Rattle.click_ports.specs.Kinds.{Reaches, itself, linked, further, IsPull, IsPush}
use Rattle.click_ports.specs.Lawful.{Lawful}
use Rattle.click_ports.specs.Breaches.{IsBreach, count, unused, mixed, twice, rank, side_rank, PortBefore, fault_port, BreachBefore, IsFirstBreach}
use Rattle.click_ports.proofs.MarkedKinds.{linked-back, linked-has}
use Rattle.click_ports.proofs.FirstBreach.{counted-right}
use Rattle.click_ports.proofs.PortNumbers.{same_port}
use Rattle.click_ports.proofs.PortUses.{has-end, reason}

-- two linked ports reach the same kinds
across-link : (ss : List Shape) (cs : List Connection) (p q : Port) (c : Code) → Lawful ss cs → Linked ss cs p q → code_at ss p ≡ c → IsPull ss cs p → IsPull ss cs q
across-link ss cs p q Agnostic k l e (r, t, i) = (r, further q p r (linked-back ss cs p q l) e t, i)
across-link ss cs p q Pull k l e m =
    (p, linked q p (linked-back ss cs p q l) (λ a. let t : Pull ≡ Agnostic = sym e ∙ a in cc t), e)
across-link ss cs p q Push k l e m =
    let fixed : IsFixed ss p = λ a. let t : Push ≡ Agnostic = sym e ∙ a in cc t in
    absurd (k.unmixed p (linked-has ss cs p q l) ((p, itself p fixed, e), m))

pub linked-agree : (ss : List Shape) (cs : List Connection) (p q : Port) → Lawful ss cs → Linked ss cs p q → IsPull ss cs p → IsPull ss cs q
linked-agree ss cs p q k l m = across-link ss cs p q (code_at ss p) k l refl m

pub agree : (ss : List Shape) (cs : List Connection) (c : Connection) → Lawful ss cs → Contains cs c → IsPull ss cs (joined_port Output c) ↔ IsPull ss cs (joined_port Input c)
agree ss cs c k h = (linked-agree ss cs (joined_port Output c) (joined_port Input c) k (along c h), linked-agree ss cs (joined_port Input c) (joined_port Output c) k (against c h))

-- two lists with the same connections have the same ports
has-same : (cs ds : List Connection) → ((c : Connection) → Contains cs c → Contains ds c) → (p : Port) → Has cs p → Has ds p
has-same cs ds f p h =
    let r = reason cs p h in
    let g : Has ds (joined_port p.side r.by) = has-end ds r.by p.side (f r.by r.there) in
    higher p.side r.by p.element p.number r.at_element r.at_least g
  where
    higher : (s : Side) (c : Connection) (e n : ℕ) → (joined_port s c).element ≡ e → n ≤ (joined_port s c).number → Has ds (joined_port s c) → n < used ds e s
    higher Input c e n a b g = subst (λ x. n < used ds x Input) a (omega (arith, b, g))
    higher Output c e n a b g = subst (λ x. n < used ds x Output) a (omega (arith, b, g))

module _ (ss : List Shape) (cs ds : List Connection) (f : (c : Connection) → Contains cs c → Contains ds c) where
  passes-same : (e i o : ℕ) → Passes ss cs e i o → Passes ss ds e i o
  passes-same e i o h = record {
    has_input = has-same cs ds f (input e i) h.has_input;
    has_output = has-same cs ds f (output e o) h.has_output;
    agnostic_input = h.agnostic_input;
    agnostic_output = h.agnostic_output;
    inside = h.inside;
  }

  linked-same : (p q : Port) → Linked ss cs p q → Linked ss ds p q
  linked-same p q (along c h) = along c (f c h)
  linked-same p q (against c h) = against c (f c h)
  linked-same p q (through e i o h) = through e i o (passes-same e i o h)
  linked-same p q (back e i o h) = back e i o (passes-same e i o h)

  reaches-same : (p q : Port) → Reaches ss cs p q → Reaches ss ds p q
  reaches-same p q (itself a h) = itself a h
  reaches-same p q (linked a b l h) = linked a b (linked-same a b l) h
  reaches-same p q (further a b d l h r) = further a b d (linked-same a b l) h (reaches-same b d r)

  pull-same : (p : Port) → IsPull ss cs p → IsPull ss ds p
  pull-same p m = (m.0, reaches-same p m.0 m.1, m.2)

pub order-free : (ss : List Shape) (cs ds : List Connection) → ((c : Connection) → Contains cs c ↔ Contains ds c) → (p : Port) → IsPull ss cs p ↔ IsPull ss ds p
order-free ss cs ds h p = (pull-same ss cs ds (λ c. (h c).0) p, pull-same ss ds cs (λ c. (h c).1) p)

module _ (ss : List Shape) (cs : List Connection) (ring : Port → Bool) (agnostic : (p : Port) → ring p ≡ true → IsAgnostic ss p) (closed : (p q : Port) → ring p ≡ true → Linked ss cs p q → ring q ≡ true) where
  reaches-none : (p q : Port) → Reaches ss cs p q → ring p ≡ true → ⊥
  reaches-none p q (itself a h) t = h (agnostic a t)
  reaches-none p q (linked a b l h) t = h (agnostic b (closed a b t l))
  reaches-none p q (further a b d l h r) t = reaches-none b d r (closed a b t l)

  pub ring-push : (p : Port) → ring p ≡ true → IsPush ss cs p
  ring-push p t m = reaches-none p m.0 m.1 t

-- of two breaches one comes before the other, or they are the same
three : (p q : Port) → PortBefore p q ⊎ (PortBefore q p ⊎ (p ≡ q))
three p q = elim (cases_order p.element q.element) [
  | inr (inl l) ↦ inl (inl l)
  | inr (inr l) ↦ inr (inl (inl l))
  | inl e ↦ sides p.side q.side refl refl e
]
  where
    numbers : p.element ≡ q.element → p.side ≡ q.side → PortBefore p q ⊎ (PortBefore q p ⊎ (p ≡ q))
    numbers e s = elim (cases_order p.number q.number) [
      | inl n ↦ inr (inr (same_port p q e s n))
      | inr (inl l) ↦ inl (inr (e, inr (s, l)))
      | inr (inr l) ↦ inr (inl (inr (sym e, inr (sym s, l))))
    ]

    sides : (s t : Side) → p.side ≡ s → q.side ≡ t → p.element ≡ q.element → PortBefore p q ⊎ (PortBefore q p ⊎ (p ≡ q))
    sides Input Input a b e = numbers e (a ∙ sym b)
    sides Output Output a b e = numbers e (a ∙ sym b)
    sides Input Output a b e = inl (inr (e, inl (let x : side_rank p.side ≡ 0 = ap side_rank a in let y : side_rank q.side ≡ 1 = ap side_rank b in omega (arith, x, y))))
    sides Output Input a b e = inr (inl (inr (sym e, inl (let x : side_rank p.side ≡ 1 = ap side_rank a in let y : side_rank q.side ≡ 0 = ap side_rank b in omega (arith, x, y)))))

same_kind : (j k : FaultKind) → rank j ≡ rank k → j ≡ k
same_kind kind.Count kind.Count h = refl
same_kind kind.Count kind.Unused h = absurd (omega (arith, h))
same_kind kind.Count kind.Mixed h = absurd (omega (arith, h))
same_kind kind.Count kind.Twice h = absurd (omega (arith, h))
same_kind kind.Count kind.NoMemory h = absurd (omega (arith, h))
same_kind kind.Unused kind.Count h = absurd (omega (arith, h))
same_kind kind.Unused kind.Unused h = refl
same_kind kind.Unused kind.Mixed h = absurd (omega (arith, h))
same_kind kind.Unused kind.Twice h = absurd (omega (arith, h))
same_kind kind.Unused kind.NoMemory h = absurd (omega (arith, h))
same_kind kind.Mixed kind.Count h = absurd (omega (arith, h))
same_kind kind.Mixed kind.Unused h = absurd (omega (arith, h))
same_kind kind.Mixed kind.Mixed h = refl
same_kind kind.Mixed kind.Twice h = absurd (omega (arith, h))
same_kind kind.Mixed kind.NoMemory h = absurd (omega (arith, h))
same_kind kind.Twice kind.Count h = absurd (omega (arith, h))
same_kind kind.Twice kind.Unused h = absurd (omega (arith, h))
same_kind kind.Twice kind.Mixed h = absurd (omega (arith, h))
same_kind kind.Twice kind.Twice h = refl
same_kind kind.Twice kind.NoMemory h = absurd (omega (arith, h))
same_kind kind.NoMemory kind.Count h = absurd (omega (arith, h))
same_kind kind.NoMemory kind.Unused h = absurd (omega (arith, h))
same_kind kind.NoMemory kind.Mixed h = absurd (omega (arith, h))
same_kind kind.NoMemory kind.Twice h = absurd (omega (arith, h))
same_kind kind.NoMemory kind.NoMemory h = refl

same_fault : (f g : PortFault) → f.kind ≡ g.kind → fault_port f ≡ fault_port g → f ≡ g
same_fault f g k p =
    let made : FaultKind → Port → PortFault = λ j q. record { kind = j; element = q.element; side = q.side; number = q.number } in
    ap (λ j. made j (fault_port f)) k ∙ ap (made g.kind) p

compared : (f g : PortFault) → BreachBefore f g ⊎ (BreachBefore g f ⊎ (f ≡ g))
compared f g = elim (cases_order (rank f.kind) (rank g.kind)) [
  | inr (inl l) ↦ inl (inl l)
  | inr (inr l) ↦ inr (inl (inl l))
  | inl e ↦ (let k = same_kind f.kind g.kind e in elim (three (fault_port f) (fault_port g)) [
    | inl l ↦ inl (inr (k, l))
    | inr (inl l) ↦ inr (inl (inr (sym k, l)))
    | inr (inr s) ↦ inr (inr (same_fault f g k s))
  ])
]

pub one-first : (ss : List Shape) (cs : List Connection) (f g : PortFault) → IsFirstBreach ss cs f → IsFirstBreach ss cs g → f ≡ g
one-first ss cs f g a b = elim (compared f g) [ inl l ↦ absurd (b.first f a.breach l) | inr (inl l) ↦ absurd (a.first g b.breach l) | inr (inr s) ↦ s ]

-- a lawful net has no breach
pub lawful-none : (ss : List Shape) (cs : List Connection) (f : PortFault) → Lawful ss cs → IsBreach ss cs f → ⊥
lawful-none ss cs f k (count e t s h m) = counted-right t.counts (used cs e Input) (used cs e Output) s (k.counted e t h) m
lawful-none ss cs f k (unused p h z) = let c = k.connected p h in omega (arith, c, z)
lawful-none ss cs f k (mixed p h m) = k.unmixed p h m
lawful-none ss cs f k (twice p h s m) = let c = k.single p h s in omega (arith, c, m)
