-- The numbers of used ports, from the connections.
use Rattle.std.proofs.Common.{◌≡◌, ◌≢◌, ◌⊎◌, inl, inr, ℕ, ◌+◌, ◌<◌, ◌≤◌, max, suc, List, [], ◌∷◌, ◌++◌, length, get_or, set, Bool, true, false, cond, refl, sym, ap, ◌∙◌, subst, Contains, arith}
use Rattle.std.specs.Prelude.{nat_eq}
use Rattle.std.proofs.lemmas.List.Recursion.{max_bounds, max_push}
use Rattle.std.proofs.lemmas.List.{get_or-set_same, get_or-set_other, length-set}
use Rattle.std.proofs.lemmas.List.Elements.{All-contains}
use Rattle.std.proofs.lemmas.Bool.{cases_eq}
use Rattle.std.proofs.lemmas.Bool.Decides.{nat_tests}
use Rattle.click_classes.specs.declared.ports.Side.{Side}
use Rattle.click_classes.specs.declared.ports.Side.TheVariants.{Input, Output}
use Rattle.click_expand.specs.declared.flat.Connection.{Connection}
use Rattle.click_ports.specs.declared.port.Port.{Port}
use Rattle.click_ports.specs.Ports.{joined_port, past, used, Has}
use Rattle.click_ports.specs.kept.Used.{AreUsed}
use Rattle.click_ports.specs.kept.Wiring.{AreWithin}

pub used-push : (cs : List Connection) (c : Connection) (e : ℕ) (s : Side) → used (cs ++ c ∷ []) e s ≡ max (used cs e s) (past e s c)
used-push cs c e s = max_push (λ xs. used xs e s) (past e s) refl (λ _ _. refl) cs c

pub past-here : (e : ℕ) (s : Side) (c : Connection) → (joined_port s c).element ≡ e → past e s c ≡ (joined_port s c).number + 1
past-here e s c h = let t : nat_eq (joined_port s c).element e ≡ true = grind (arith, nat_tests) in ap (λ b. cond b ((joined_port s c).number + 1) 0) t

pub past-other : (e : ℕ) (s : Side) (c : Connection) → ((joined_port s c).element ≡ e → ⊥) → past e s c ≡ 0
past-other e s c h = let t : nat_eq (joined_port s c).element e ≡ false = grind (arith, nat_tests) in ap (λ b. cond b ((joined_port s c).number + 1) 0) t

-- the ends of a connection exist
pub has-end : (cs : List Connection) (c : Connection) (s : Side) → Contains cs c → Has cs (joined_port s c)
has-end cs c Input (k, l, e) =
    let b = max_bounds (λ xs. used xs c.to Input) (past c.to Input) refl (λ _ _. refl) cs k c l in
    omega (arith, subst (λ (x : Connection). past c.to Input x ≤ used cs c.to Input) e b, past-here c.to Input c refl)
has-end cs c Output (k, l, e) =
    let b = max_bounds (λ xs. used xs c.from Output) (past c.from Output) refl (λ _ _. refl) cs k c l in
    omega (arith, subst (λ (x : Connection). past c.from Output x ≤ used cs c.from Output) e b, past-here c.from Output c refl)

-- a connection to this port of the element, or to a higher one
pub record Reason (cs : List Connection) (p : Port) : Type 0 where
  pub by : Connection
  pub there : Contains cs by
  pub at_element : (joined_port p.side by).element ≡ p.element
  pub at_least : p.number ≤ (joined_port p.side by).number

later : (c : Connection) (cs : List Connection) (p : Port) → Reason cs p → Reason (c ∷ cs) p
later c cs p r = record { by = r.by; there = (suc r.there.0, omega (arith, r.there.1), r.there.2); at_element = r.at_element; at_least = r.at_least }

reason_by : (c : Connection) (cs : List Connection) (p : Port) (b : Bool) → nat_eq (joined_port p.side c).element p.element ≡ b → (Has cs p → Reason cs p) →
    p.number < max (cond b ((joined_port p.side c).number + 1) 0) (used cs p.element p.side) → Reason (c ∷ cs) p
reason_by c cs p false e rest h = later c cs p (rest (omega (arith, h)))
reason_by c cs p true e rest h =
    let here : (joined_port p.side c).element ≡ p.element = grind (arith, nat_tests) in
    elim (split p.number (joined_port p.side c).number (used cs p.element p.side) h) [
      | inl l ↦ record { by = c; there = (0, omega arith, refl); at_element = here; at_least = l }
      | inr l ↦ later c cs p (rest l)
    ]
  where
    split : (n m u : ℕ) → n < max (m + 1) u → (n ≤ m) ⊎ (n < u)
    split n m u h = grind arith

-- a port exists because of some connection
pub reason : (cs : List Connection) (p : Port) → Has cs p → Reason cs p
reason [] p h = absurd (omega (arith, h))
reason (c ∷ cs) p h = reason_by c cs p (nat_eq (joined_port p.side c).element p.element) refl (reason cs p) h

pub within-end : (n : ℕ) (c : Connection) (s : Side) → (c.from < n) × (c.to < n) → (joined_port s c).element < n
within-end n c Input h = h.1
within-end n c Output h = h.0

-- a port belongs to one of the first n elements
pub has-within : (n : ℕ) (cs : List Connection) (p : Port) → AreWithin n cs → Has cs p → p.element < n
has-within n cs p w h =
    let r = reason cs p h in
    subst (λ e. e < n) r.at_element (within-end n r.by p.side (All-contains (λ (c : Connection). (c.from < n) × (c.to < n)) cs r.by w r.there))

used_at : (cs : List Connection) (c : Connection) (s : Side) (n : ℕ) (counts : List ℕ) (x v : ℕ) → x ≡ (joined_port s c).element → v ≡ max (get_or counts x 0) ((joined_port s c).number + 1) →
    AreUsed cs n s counts → (e : ℕ) → e < n → (e ≡ x) ⊎ (e ≢ x) → get_or (set counts x v) e 0 ≡ used (cs ++ c ∷ []) e s
used_at cs c s n counts x v p q u e l (inl same) =
    let here : (joined_port s c).element ≡ e = sym p ∙ sym same in
    let lx : e < length counts = omega (arith, l, u.all) in
    ap (λ i. get_or (set counts i v) e 0) (sym same) ∙ get_or-set_same counts e v 0 lx ∙ q
    ∙ ap (λ i. max (get_or counts i 0) ((joined_port s c).number + 1)) (sym same) ∙ ap (λ a. max a ((joined_port s c).number + 1)) (u.right e l)
    ∙ ap (max (used cs e s)) (sym (past-here e s c here)) ∙ sym (used-push cs c e s)
used_at cs c s n counts x v p q u e l (inr other) =
    let away : past e s c ≡ 0 = past-other e s c (λ h. other (sym h ∙ sym p)) in
    let m : max (used cs e s) 0 ≡ used cs e s = omega arith in
    get_or-set_other counts x e v 0 other ∙ u.right e l ∙ sym m ∙ ap (max (used cs e s)) (sym away) ∙ sym (used-push cs c e s)

used_small : (n x v : ℕ) (counts : List ℕ) → x < n → length counts ≡ n → v ≤ 256 → ((e : ℕ) → e < n → get_or counts e 0 ≤ 256) → (e : ℕ) → e < n → (e ≡ x) ⊎ (e ≢ x) → get_or (set counts x v) e 0 ≤ 256
used_small n x v counts lx a b f e l (inl same) = rw same (let k : x < length counts = omega (arith, lx, a) in rw get_or-set_same b)
used_small n x v counts lx a b f e l (inr other) = rw get_or-set_other (f e l)

-- one more connection
pub used-more : (cs : List Connection) (c : Connection) (s : Side) (n : ℕ) (counts : List ℕ) (x v : ℕ) → x ≡ (joined_port s c).element → v ≡ max (get_or counts x 0) ((joined_port s c).number + 1) →
    x < n → (joined_port s c).number < 256 → AreUsed cs n s counts → AreUsed (cs ++ c ∷ []) n s (set counts x v)
used-more cs c s n counts x v p q l small u = record {
  all = length-set counts x v ∙ u.all;
  right = λ e k. used_at cs c s n counts x v p q u e k (cases_eq e x);
  small = λ e k. used_small n x v counts l u.all (let b : get_or counts x 0 ≤ 256 = u.small x l in omega (arith, q, b, small)) u.small e k (cases_eq e x);
}
