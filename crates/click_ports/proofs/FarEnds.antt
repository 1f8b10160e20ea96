-- The other ends of connections, row by row.
use Rattle.std.proofs.Common.{◌≡◌, ◌≢◌, ◌⊎◌, inl, inr, ℕ, ◌+◌, ◌<◌, suc, zero, List, [], ◌∷◌, ◌++◌, length, get_or, set, Bool, true, false, cond, ◌&&◌, refl, sym, ap, ◌∙◌, subst, arith, Contains}
use Rattle.std.specs.Prelude.{nat_eq, replicate}
use Rattle.std.proofs.lemmas.List.{get_or-set_same, get_or-set_other, length-set, append-nil, replicate-append-replicate, length-replicate}
use Rattle.std.proofs.lemmas.Bool.{cases_eq}
use Rattle.std.proofs.lemmas.Bool.Decides.{nat_tests}
use Rattle.click_classes.specs.declared.ports.Side.{Side}
use Rattle.click_classes.specs.declared.ports.Side.TheVariants.{Input, Output}
use Rattle.click_expand.specs.declared.flat.Connection.{Connection}
use Rattle.click_ports.specs.declared.port.Port.{Port}
use Rattle.click_ports.specs.Ports.{joined_port, joins, Has, input, output, first, port_index}
use Rattle.click_ports.specs.kept.Ends.{far_end, far_ends}
use Rattle.click_ports.specs.kept.Wiring.{Wiring}
use Rattle.std.proofs.lemmas.List.Elements.{Contains-get_or}
use Rattle.click_ports.proofs.PortNumbers.{number-same, same_port}
use Rattle.click_ports.proofs.PortUses.{has-end}

-- n empty rows
pub replicate-push : {X : Type 0} (n : ℕ) (a : X) → replicate (n + 1) a ≡ replicate n a ++ a ∷ []
replicate-push n a = sym (replicate-append-replicate n 1 a)

end-side : (s : Side) (c : Connection) → (joined_port s c).side ≡ s
end-side Input c = refl
end-side Output c = refl

-- a connection joins the port at its end
pub joins-end : (p : Port) (c : Connection) → p ≡ joined_port p.side c → joins p c ≡ true
joins-end p c h =
    let a : nat_eq (joined_port p.side c).element p.element ≡ true = let e : p.element ≡ (joined_port p.side c).element = ap (λ (q : Port). q.element) h in grind (arith, nat_tests) in
    let b : nat_eq (joined_port p.side c).number p.number ≡ true = let e : p.number ≡ (joined_port p.side c).number = ap (λ (q : Port). q.number) h in grind (arith, nat_tests) in
    ap (λ t. t && nat_eq (joined_port p.side c).number p.number) a ∙ b

joins_by : (p : Port) (c : Connection) (t u : Bool) → nat_eq (joined_port p.side c).element p.element ≡ t → nat_eq (joined_port p.side c).number p.number ≡ u → (t && u) ≡ true → p ≡ joined_port p.side c
joins_by p c true true a b h =
    let e : p.element ≡ (joined_port p.side c).element = grind (arith, nat_tests) in
    let n : p.number ≡ (joined_port p.side c).number = grind (arith, nat_tests) in
    same_port p (joined_port p.side c) e (sym (end-side p.side c)) n
joins_by p c true false a b h = absurd (cc h)
joins_by p c false u a b h = absurd (cc h)

pub joins-is : (p : Port) (c : Connection) → joins p c ≡ true → p ≡ joined_port p.side c
joins-is p c h = joins_by p c (nat_eq (joined_port p.side c).element p.element) (nat_eq (joined_port p.side c).number p.number) refl refl h

bool_false : (b : Bool) → (b ≡ true → ⊥) → b ≡ false
bool_false false h = refl
bool_false true h = absurd (h refl)

pub joins-not : (p : Port) (c : Connection) → (p ≡ joined_port p.side c → ⊥) → joins p c ≡ false
joins-not p c h = bool_false (joins p c) (λ t. h (joins-is p c t))

-- one more connection in the row of a port
pub far_ends-push : (cs some : List Connection) (c : Connection) (p : Port) → far_ends cs (some ++ c ∷ []) p ≡ far_ends cs some p ++ cond (joins p c) (far_end cs p c ∷ []) []
far_ends-push cs [] c p = by (joins p c)
  where
    by : (b : Bool) → cond b (far_end cs p c ∷ []) [] ≡ [] ++ cond b (far_end cs p c ∷ []) []
    by true = refl
    by false = refl
far_ends-push cs (d ∷ some) c p = by (joins p d) (far_end cs p d) (far_ends cs (some ++ c ∷ []) p) (far_ends cs some p) (cond (joins p c) (far_end cs p c ∷ []) []) (far_ends-push cs some c p)
  where
    by : (b : Bool) (n : ℕ) (x y z : List ℕ) → x ≡ y ++ z → cond b (n ∷ x) x ≡ cond b (n ∷ y) y ++ z
    by true n x y z h = ap (λ t. n ∷ t) h
    by false n x y z h = h

grown-same : (rows : List (List ℕ)) (x y z : ℕ) → x < length rows → z ≡ x → get_or (set rows x (get_or rows x [] ++ y ∷ [])) z [] ≡ get_or rows z [] ++ y ∷ []
grown-same rows x y z l h = ap (λ k. get_or (set rows x (get_or rows x [] ++ y ∷ [])) k []) h ∙ get_or-set_same rows x _ [] l ∙ ap (λ k. get_or rows k [] ++ y ∷ []) (sym h)

-- the rows of the first connections
pub record AreEndsOf (w : Wiring) (some : List Connection) (rows : List (List ℕ)) : Type 0 where
  pub all : length rows ≡ first w.connections (length w.shapes)
  pub right : (p : Port) → Has w.connections p → get_or rows (port_index w.connections p) [] ≡ far_ends w.connections some p

sides_differ : (c : Connection) → joined_port Output c ≡ joined_port Input c → ⊥
sides_differ c h = let e : Output ≡ Input = ap (λ (p : Port). p.side) h in cc e

side_or_not : (s : Side) (e n f m : ℕ) (a : (e ≡ f) ⊎ (e ≡ f → ⊥)) (b : (n ≡ m) ⊎ (n ≡ m → ⊥)) →
    ◌⊎◌ (◌≡◌ {A = Port} (record { element = e; side = s; number = n }) (record { element = f; side = s; number = m }))
    (◌≡◌ {A = Port} (record { element = e; side = s; number = n }) (record { element = f; side = s; number = m }) → ⊥)
side_or_not s e n f m (inl a) (inl b) = inl (same_port (record { element = e; side = s; number = n }) (record { element = f; side = s; number = m }) a refl b)
side_or_not s e n f m (inr a) b = inr (λ h. a (ap (λ (p : Port). p.element) h))
side_or_not s e n f m (inl a) (inr b) = inr (λ h. b (ap (λ (p : Port). p.number) h))

module _ (cs some : List Connection) (c : Connection) (rows rows1 rows2 : List (List ℕ)) (x y : ℕ) (hx : Has cs (joined_port Output c)) (hy : Has cs (joined_port Input c))
    (is_x : x ≡ port_index cs (joined_port Output c)) (is_y : y ≡ port_index cs (joined_port Input c)) (lx : x < length rows) (ly : y < length rows)
    (one : rows1 ≡ set rows x (get_or rows x [] ++ y ∷ [])) (two : rows2 ≡ set rows1 y (get_or rows1 y [] ++ x ∷ [])) where
  apart : x ≢ y
  apart h = sides_differ c (number-same cs (joined_port Output c) (joined_port Input c) hx hy (sym is_x ∙ h ∙ is_y))

  first_row : (z : ℕ) → z ≡ x → get_or rows1 z [] ≡ get_or rows z [] ++ y ∷ []
  first_row z h = ap (λ r. get_or r z []) one ∙ grown-same rows x y z lx h

  first_other : (z : ℕ) → z ≢ x → get_or rows1 z [] ≡ get_or rows z []
  first_other z h = ap (λ r. get_or r z []) one ∙ get_or-set_other rows x z _ [] h

  second_row : (z : ℕ) → z ≡ y → get_or rows2 z [] ≡ get_or rows1 z [] ++ x ∷ []
  second_row z h =
      let l1 : y < length rows1 = omega (arith, ly, ap length one, length-set rows x (get_or rows x [] ++ y ∷ [])) in
      ap (λ r. get_or r z []) two ∙ grown-same rows1 y x z l1 h

  second_other : (z : ℕ) → z ≢ y → get_or rows2 z [] ≡ get_or rows1 z []
  second_other z h = ap (λ r. get_or r z []) two ∙ get_or-set_other rows1 y z _ [] h

  -- the row of an output, and of an input
  output_row : (e n : ℕ) → Has cs (output e n) → get_or rows (port_index cs (output e n)) [] ≡ far_ends cs some (output e n) →
      (output e n ≡ joined_port Output c) ⊎ (output e n ≡ joined_port Output c → ⊥) → get_or rows2 (port_index cs (output e n)) [] ≡ far_ends cs (some ++ c ∷ []) (output e n)
  output_row e n h k (inl is) =
      let p : Port = output e n in
      let z : port_index cs p ≡ x = ap (port_index cs) is ∙ sym is_x in
      second_other (port_index cs p) (λ q. apart (sym z ∙ q)) ∙ first_row (port_index cs p) z ∙ ap (λ r. r ++ y ∷ []) k
      ∙ ap (λ t. far_ends cs some p ++ t ∷ []) is_y ∙ ap (λ b. far_ends cs some p ++ cond b (far_end cs p c ∷ []) []) (sym (joins-end p c is)) ∙ sym (far_ends-push cs some c p)
  output_row e n h k (inr not) =
      let p : Port = output e n in
      let zx : port_index cs p ≢ x = λ q. not (number-same cs p (joined_port Output c) h hx (q ∙ is_x)) in
      let zy : port_index cs p ≢ y = λ q. other_side e n (number-same cs p (joined_port Input c) h hy (q ∙ is_y)) in
      second_other (port_index cs p) zy ∙ first_other (port_index cs p) zx ∙ k ∙ sym (append-nil (far_ends cs some p))
      ∙ ap (λ b. far_ends cs some p ++ cond b (far_end cs p c ∷ []) []) (sym (joins-not p c not)) ∙ sym (far_ends-push cs some c p)
    where
      other_side : (e n : ℕ) → output e n ≡ joined_port Input c → ⊥
      other_side e n h = let q : Output ≡ Input = ap (λ (p : Port). p.side) h in cc q

  input_row : (e n : ℕ) → Has cs (input e n) → get_or rows (port_index cs (input e n)) [] ≡ far_ends cs some (input e n) →
      (input e n ≡ joined_port Input c) ⊎ (input e n ≡ joined_port Input c → ⊥) → get_or rows2 (port_index cs (input e n)) [] ≡ far_ends cs (some ++ c ∷ []) (input e n)
  input_row e n h k (inl is) =
      let p : Port = input e n in
      let z : port_index cs p ≡ y = ap (port_index cs) is ∙ sym is_y in
      second_row (port_index cs p) z ∙ ap (λ r. r ++ x ∷ []) (first_other (port_index cs p) (λ q. apart (sym q ∙ z)) ∙ k)
      ∙ ap (λ t. far_ends cs some p ++ t ∷ []) is_x ∙ ap (λ b. far_ends cs some p ++ cond b (far_end cs p c ∷ []) []) (sym (joins-end p c is)) ∙ sym (far_ends-push cs some c p)
  input_row e n h k (inr not) =
      let p : Port = input e n in
      let zy : port_index cs p ≢ y = λ q. not (number-same cs p (joined_port Input c) h hy (q ∙ is_y)) in
      let zx : port_index cs p ≢ x = λ q. other_side e n (number-same cs p (joined_port Output c) h hx (q ∙ is_x)) in
      second_other (port_index cs p) zy ∙ first_other (port_index cs p) zx ∙ k ∙ sym (append-nil (far_ends cs some p))
      ∙ ap (λ b. far_ends cs some p ++ cond b (far_end cs p c ∷ []) []) (sym (joins-not p c not)) ∙ sym (far_ends-push cs some c p)
    where
      other_side : (e n : ℕ) → input e n ≡ joined_port Output c → ⊥
      other_side e n h = let q : Input ≡ Output = ap (λ (p : Port). p.side) h in cc q

  port_row : (e : ℕ) (s : Side) (n : ℕ) → Has cs (record { element = e; side = s; number = n }) →
      get_or rows (port_index cs (record { element = e; side = s; number = n })) [] ≡ far_ends cs some (record { element = e; side = s; number = n }) →
      get_or rows2 (port_index cs (record { element = e; side = s; number = n })) [] ≡ far_ends cs (some ++ c ∷ []) (record { element = e; side = s; number = n })
  port_row e Output n h k = output_row e n h k (side_or_not Output e n c.from c.out_port (cases_eq e c.from) (cases_eq n c.out_port))
  port_row e Input n h k = input_row e n h k (side_or_not Input e n c.to c.in_port (cases_eq e c.to) (cases_eq n c.in_port))

-- one more connection
pub ends-more : (w : Wiring) (some : List Connection) (c : Connection) (rows rows1 rows2 : List (List ℕ)) (x y : ℕ) → Has w.connections (joined_port Output c) → Has w.connections (joined_port Input c) →
    x ≡ port_index w.connections (joined_port Output c) → y ≡ port_index w.connections (joined_port Input c) → x < length rows → y < length rows →
    rows1 ≡ set rows x (get_or rows x [] ++ y ∷ []) → rows2 ≡ set rows1 y (get_or rows1 y [] ++ x ∷ []) → AreEndsOf w some rows → AreEndsOf w (some ++ c ∷ []) rows2
ends-more w some c rows rows1 rows2 x y hx hy is_x is_y lx ly one two k = record {
  all = ap length two ∙ length-set rows1 y (get_or rows1 y [] ++ x ∷ []) ∙ ap length one ∙ length-set rows x (get_or rows x [] ++ y ∷ []) ∙ k.all;
  right = λ p h. port_row w.connections some c rows rows1 rows2 x y hx hy is_x is_y lx ly one two p.element p.side p.number h (k.right p h);
}

pub ends-none : (w : Wiring) (rows : List (List ℕ)) → rows ≡ replicate (first w.connections (length w.shapes)) [] → AreEndsOf w [] rows
ends-none w rows h = record {
  all = ap length h ∙ length-replicate (first w.connections (length w.shapes)) [];
  right = λ p k. ap (λ r. get_or r (port_index w.connections p) []) h ∙ all_empty (first w.connections (length w.shapes)) (port_index w.connections p);
}
  where
    all_empty : (n i : ℕ) → get_or {A = List ℕ} (replicate n []) i [] ≡ []
    all_empty zero i = refl
    all_empty (suc n) zero = refl
    all_empty (suc n) (suc i) = all_empty n i

-- the ends of a connection exist
pub end-has : (cs xs : List Connection) (i : ℕ) (d : Connection) (s : Side) (p : Port) → xs ≡ cs → i < length xs → p ≡ joined_port s (get_or xs i d) → Has cs p
end-has cs xs i d s p h l is =
    subst (λ (q : Port). Has cs q) (sym is)
    (has-end cs (get_or xs i d) s (subst (λ ys. Contains ys (get_or xs i d)) h (Contains-get_or xs i d l)))
