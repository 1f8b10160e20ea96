-- The marks of a search are the kinds of the ports.
use Rattle.std.proofs.Common.{◌≡◌, ◌⊎◌, inl, inr, ℕ, ◌+◌, ◌-◌, ◌<◌, ◌≤◌, suc, zero, List, [], ◌∷◌, length, Bool, true, false, cond, refl, sym, ap, ◌∙◌, subst, arith, Contains}
use Rattle.std.proofs.lemmas.List.{get_or_past}
use Rattle.std.proofs.lemmas.Bool.{cases_lt}
use Rattle.click_classes.specs.declared.ports.Code.{Code}
use Rattle.click_classes.specs.declared.ports.Code.TheVariants.{Agnostic}
use Rattle.click_classes.specs.declared.ports.Side.{Side}
use Rattle.click_classes.specs.declared.ports.Side.TheVariants.{Input, Output}
use Rattle.click_expand.specs.declared.flat.Connection.{Connection}
use Rattle.click_ports.specs.declared.port.Port.{Port}
use Rattle.click_ports.specs.declared.shape.Shape.{Shape}
use Rattle.click_ports.specs.Ports.{used, joined_port, joins, Has, input, output, first, port_index}
use Rattle.click_ports.specs.Links.{code_at, IsFixed, Linked, along, against, through, back}
use Rattle.click_ports.specs.Kinds.{Reaches, itself, linked, further, Meets}
use Rattle.click_ports.specs.kept.Ends.{far_end, far_ends, AreFarEnds}
use Rattle.click_ports.specs.kept.Marks.{AreCodes, AreMarks}
use Rattle.click_ports.specs.kept.Passages.{opposite, across, Crosses, AreRows}
use Rattle.click_ports.specs.kept.Search.{code_of, row_at, IsNext, IsGraph, Spreads, begins, goes_on, AreMarked}
use Rattle.click_ports.specs.kept.Wiring.{Wiring, AreWithin}
use Rattle.click_ports.proofs.PortNumbers.{number-same, number-within}
use Rattle.click_ports.proofs.FarEnds.{joins-end, joins-is}
use Rattle.click_ports.proofs.PortUses.{has-end, has-within}

pub linked-back : (ss : List Shape) (cs : List Connection) (p q : Port) → Linked ss cs p q → Linked ss cs q p
linked-back ss cs p q (along c h) = against c h
linked-back ss cs p q (against c h) = along c h
linked-back ss cs p q (through e i o h) = back e i o h
linked-back ss cs p q (back e i o h) = through e i o h

pub linked-has : (ss : List Shape) (cs : List Connection) (p q : Port) → Linked ss cs p q → Has cs p
linked-has ss cs p q (along c h) = has-end cs c Output h
linked-has ss cs p q (against c h) = has-end cs c Input h
linked-has ss cs p q (through e i o h) = h.has_input
linked-has ss cs p q (back e i o h) = h.has_output

-- each number below the count of ports is that of a port
pub number-onto : (cs : List Connection) (n x : ℕ) → x < first cs n → (p : Port) × Has cs p × (port_index cs p ≡ x)
number-onto cs zero x h = absurd (omega (arith, h))
number-onto cs (suc n) x h = elim (cases_lt x (first cs n)) [
  | inl a ↦ number-onto cs n x a
  | inr a ↦ elim (cases_lt (x - first cs n) (used cs n Input)) [
    | inl b ↦ (input n (x - first cs n), b, (let e : first cs n + 0 + (x - first cs n) ≡ x = omega (arith, a) in e))
    | inr b ↦ (
      output n (x - first cs n - used cs n Input),
      (let l : x - first cs n - used cs n Input < used cs n Output = omega (arith, h, a, b) in l),
      (let e : first cs n + used cs n Input + (x - first cs n - used cs n Input) ≡ x = omega (arith, a, b) in e),
    )
  ]
]

-- a connection of the port, by the number of its other end
pub record FarEnd (cs some : List Connection) (p : Port) (y : ℕ) : Type 0 where
  pub by : Connection
  pub there : Contains some by
  pub here : p ≡ joined_port p.side by
  pub far : y ≡ far_end cs p by

contains-head : {X : Type 0} (x : X) (xs : List X) → Contains (x ∷ xs) x
contains-head x xs = (0, omega arith, refl)

contains-tail : {X : Type 0} (y : X) (xs : List X) (x : X) → Contains xs x → Contains (y ∷ xs) x
contains-tail y xs x (k, l, e) = (suc k, omega (arith, l), e)

contains-cases : {X : Type 0} (y : X) (xs : List X) (x : X) → Contains (y ∷ xs) x → (y ≡ x) ⊎ Contains xs x
contains-cases y xs x (zero, l, e) = inl e
contains-cases y xs x (suc k, l, e) = inr (k, omega (arith, l), e)

far-later : (cs : List Connection) (c : Connection) (some : List Connection) (p : Port) (y : ℕ) → FarEnd cs some p y → FarEnd cs (c ∷ some) p y
far-later cs c some p y f = record { by = f.by; there = contains-tail c some f.by f.there; here = f.here; far = f.far }

far_by : (cs : List Connection) (c : Connection) (some : List Connection) (p : Port) (y : ℕ) (b : Bool) → joins p c ≡ b → (Contains (far_ends cs some p) y → FarEnd cs some p y) →
    Contains (cond b (far_end cs p c ∷ far_ends cs some p) (far_ends cs some p)) y → FarEnd cs (c ∷ some) p y
far_by cs c some p y false e f h = far-later cs c some p y (f h)
far_by cs c some p y true e f h = elim (contains-cases (far_end cs p c) (far_ends cs some p) y h) [
  | inl a ↦ record { by = c; there = contains-head c some; here = joins-is p c e; far = sym a }
  | inr a ↦ far-later cs c some p y (f a)
]

far-is : (cs some : List Connection) (p : Port) (y : ℕ) → Contains (far_ends cs some p) y → FarEnd cs some p y
far-is cs [] p y (k, l, e) = absurd (omega (arith, l))
far-is cs (c ∷ some) p y h = far_by cs c some p y (joins p c) refl (far-is cs some p y) h

kept_by : (b : Bool) (n : ℕ) (row : List ℕ) (y : ℕ) → Contains row y → Contains (cond b (n ∷ row) row) y
kept_by false n row y h = h
kept_by true n row y h = contains-tail n row y h

far-has : (cs some : List Connection) (p : Port) (c : Connection) → Contains some c → p ≡ joined_port p.side c → Contains (far_ends cs some p) (far_end cs p c)
far-has cs [] p c (k, l, e) h = absurd (omega (arith, l))
far-has cs (d ∷ some) p c k h = elim (contains-cases d some c k) [
  | inl a ↦ (let t : joins p d ≡ true = ap (joins p) a ∙ joins-end p c h in
      subst (λ x. Contains (cond (joins p d) (far_end cs p d ∷ far_ends cs some p) (far_ends cs some p)) (far_end cs p x)) a
      (subst (λ b. Contains (cond b (far_end cs p d ∷ far_ends cs some p) (far_ends cs some p)) (far_end cs p d)) (sym t) (contains-head (far_end cs p d) (far_ends cs some p))))
  | inr a ↦ kept_by (joins p d) (far_end cs p d) (far_ends cs some p) (far_end cs p c) (far-has cs some p c a h)
]

-- a port is linked with the other end of its connection
end_linked : (ss : List Shape) (cs : List Connection) (p : Port) (s : Side) (c : Connection) → Contains cs c → p ≡ joined_port s c → Linked ss cs p (joined_port (opposite s) c)
end_linked ss cs p Input c h e = subst (λ x. Linked ss cs x (joined_port Output c)) (sym e) (against c h)
end_linked ss cs p Output c h e = subst (λ x. Linked ss cs x (joined_port Input c)) (sym e) (along c h)

crossed_port : (ss : List Shape) (cs : List Connection) (e : ℕ) (s : Side) (k n : ℕ) → Crosses ss cs (record { element = e; side = s; number = k }) n →
    Linked ss cs (record { element = e; side = s; number = k }) (across (record { element = e; side = s; number = k }) n)
crossed_port ss cs e Input k n h = through e k n (record { has_input = h.here; has_output = h.there; agnostic_input = h.agnostic_here; agnostic_output = h.agnostic_there; inside = h.inside })
crossed_port ss cs e Output k n h = back e n k (record { has_input = h.there; has_output = h.here; agnostic_input = h.agnostic_there; agnostic_output = h.agnostic_here; inside = h.inside })

module _ (w : Wiring) (codes : List Code) (ends inside : List (List ℕ)) (in_range : AreWithin (length w.shapes) w.connections)
    (are_codes : AreCodes w codes) (are_ends : AreFarEnds w ends) (are_rows : AreRows w inside) where
  number_in : (p : Port) → Has w.connections p → port_index w.connections p < length codes
  number_in p h =
      let b = number-within w.connections (length w.shapes) p h (has-within (length w.shapes) w.connections p in_range h) in
      omega (arith, b, are_codes.all)

  -- a port in the rows of another
  next_port : (p : Port) (y : ℕ) → Has w.connections p → IsNext ends inside (port_index w.connections p) y → (q : Port) × Has w.connections q × (port_index w.connections q ≡ y) × Linked w.shapes w.connections p q
  next_port p y h (inl k) =
      let f = far-is w.connections w.connections p y (subst (λ r. Contains r y) (are_ends.right p h) k) in
      let l = end_linked w.shapes w.connections p p.side f.by f.there f.here in
      (joined_port (opposite p.side) f.by, has-end w.connections f.by (opposite p.side) f.there, sym f.far, l)
  next_port p y h (inr k) =
      let f = (are_rows.right p h).sound y k in
      (across p f.0, f.1.there, f.2, crossed_port w.shapes w.connections p.element p.side p.number f.0 f.1)

  port_next : (p q : Port) → Linked w.shapes w.connections p q → IsNext ends inside (port_index w.connections p) (port_index w.connections q)
  port_next p q (along c h) =
      inl (subst (λ r. Contains r (port_index w.connections (joined_port Input c))) (sym (are_ends.right (joined_port Output c) (has-end w.connections c Output h))) (far-has w.connections w.connections (joined_port Output c) c h refl))
  port_next p q (against c h) =
      inl (subst (λ r. Contains r (port_index w.connections (joined_port Output c))) (sym (are_ends.right (joined_port Input c) (has-end w.connections c Input h))) (far-has w.connections w.connections (joined_port Input c) c h refl))
  port_next p q (through e i o h) =
      inr ((are_rows.right (input e i) h.has_input).complete o (record { here = h.has_input; there = h.has_output; agnostic_here = h.agnostic_input; agnostic_there = h.agnostic_output; inside = h.inside }))
  port_next p q (back e i o h) =
      inr ((are_rows.right (output e o) h.has_output).complete i (record { here = h.has_output; there = h.has_input; agnostic_here = h.agnostic_output; agnostic_there = h.agnostic_input; inside = h.inside }))

  empty_past : (rows : List (List ℕ)) (x y : ℕ) → length rows ≤ x → Contains (row_at rows x) y → ⊥
  empty_past rows x y l (k, b, e) = let r : row_at rows x ≡ [] = get_or_past rows x [] l in omega (arith, b, ap length r)

  -- the rows are those of a graph
  next_in : (x y : ℕ) → IsNext ends inside x y → y < length codes
  next_in x y n = elim (cases_lt x (length codes)) [
    | inl l ↦ (
        let p = number-onto w.connections (length w.shapes) x (omega (arith, l, are_codes.all)) in
        let q = next_port p.0 y p.1 (subst (λ z. IsNext ends inside z y) (sym p.2) n) in
        subst (λ z. z < length codes) q.2 (number_in q.0 q.1))
    | inr l ↦ elim n [
      | inl k ↦ absurd (empty_past ends x y (omega (arith, l, are_codes.all, are_ends.all)) k)
      | inr k ↦ absurd (empty_past inside x y (omega (arith, l, are_codes.all, are_rows.all)) k)
    ]
  ]

  pub ports-graph : IsGraph (length codes) ends inside
  ports-graph = record { all_outside = are_ends.all ∙ sym are_codes.all; all_inside = are_rows.all ∙ sym are_codes.all; within = next_in }

  module _ (k : Code) (fixed : k ≡ Agnostic → ⊥) where
    fixed_at : (p : Port) → code_at w.shapes p ≡ k → IsFixed w.shapes p
    fixed_at p e a = fixed (sym e ∙ a)

    spreads_in : (x : ℕ) → Spreads codes ends inside k x → x < length codes
    spreads_in z (begins x l e) = l
    spreads_in z (goes_on x y s o n) = next_in x y n

    -- a port to which the marks spread reaches a port with the code
    meets_from : (x : ℕ) (p : Port) → Spreads codes ends inside k x → Has w.connections p → port_index w.connections p ≡ x → Meets w.shapes w.connections k p
    meets_from z p (begins x l e) h is =
        let c : code_at w.shapes p ≡ k = sym (are_codes.right p h) ∙ ap (code_of codes) is ∙ e in
        (p, itself p (fixed_at p c), c)
    meets_from z q (goes_on x y s o n) h is =
        let f = number-onto w.connections (length w.shapes) x (let l = spreads_in x s in omega (arith, l, are_codes.all)) in
        let p = f.0 in
        let t = next_port p y f.1 (subst (λ v. IsNext ends inside v y) (sym f.2) n) in
        let same : t.0 ≡ q = number-same w.connections t.0 q t.1 h (t.2 ∙ sym is) in
        let l : Linked w.shapes w.connections q p = linked-back w.shapes w.connections p q (subst (Linked w.shapes w.connections p) same t.3) in
        let code : code_of codes x ≡ code_at w.shapes p = ap (code_of codes) (sym f.2) ∙ are_codes.right p f.1 in
        elim o [
          | inl e ↦ (let c : code_at w.shapes p ≡ k = sym code ∙ e in (p, linked q p l (fixed_at p c), c))
          | inr e ↦ (let m = meets_from x p s f.1 f.2 in (m.0, further q p m.0 l (sym code ∙ e) m.1, m.2))
        ]

    spreads_from : (p r : Port) → Reaches w.shapes w.connections p r → code_at w.shapes r ≡ k → Has w.connections p → Spreads codes ends inside k (port_index w.connections p)
    spreads_from p r (itself a f) c h = begins (port_index w.connections a) (number_in a h) (are_codes.right a h ∙ c)
    spreads_from p r (linked a b l f) c h =
        let g : Has w.connections b = linked-has w.shapes w.connections b a (linked-back w.shapes w.connections a b l) in
        let s = begins (port_index w.connections b) (number_in b g) (are_codes.right b g ∙ c) in
        goes_on (port_index w.connections b) (port_index w.connections a) s (inl (are_codes.right b g ∙ c)) (port_next b a (linked-back w.shapes w.connections a b l))
    spreads_from p r (further a b d l f rest) c h =
        let g : Has w.connections b = linked-has w.shapes w.connections b a (linked-back w.shapes w.connections a b l) in
        goes_on (port_index w.connections b) (port_index w.connections a) (spreads_from b d rest c g) (inr (are_codes.right b g ∙ f)) (port_next b a (linked-back w.shapes w.connections a b l))

    -- the marked ports are those that reach a port with the code
    pub marks-meet : (marks : List Bool) → AreMarked codes ends inside k marks → AreMarks w k marks
    marks-meet marks m = record {
      all = m.sized ∙ are_codes.all;
      right = λ p h. (
        λ i. meets_from (port_index w.connections p) p (m.sound (port_index w.connections p) i) h refl,
        λ t. m.complete (port_index w.connections p) (spreads_from p t.0 t.1 t.2 h),
      );
    }
