-- Each port has a connection, and a push output or a pull input has exactly one.
use Rattle.std.proofs.Common.{◌≡◌, ℕ, zero, suc, ◌+◌, ◌<◌, List, [], ◌∷◌, Bool, true, false, cond, ◌&&◌, count_by, Contains, refl, sym, ap, ◌∙◌, arith}
use Rattle.std.specs.Prelude.{nat_eq}
use Rattle.std.proofs.lemmas.Bool.Decides.{nat_tests}
use Rattle.std.proofs.lemmas.List.Sums.{sum_by-cons}
use Rattle.click_classes.specs.declared.ports.Side.{Side}
use Rattle.click_classes.specs.declared.ports.Side.TheVariants.{Input, Output}
use Rattle.click_expand.specs.declared.flat.Connection.{Connection}
use Rattle.click_ports.specs.declared.port.Port.{Port}
use Rattle.click_ports.specs.declared.shape.Shape.{Shape}
use Rattle.click_ports.specs.Ports.{joined_port, joins, Has}
use Rattle.click_ports.specs.Kinds.{IsPull, IsPush, IsSingle, push_output, pull_input}
use Rattle.click_ports.specs.Lawful.{Lawful}
use Rattle.click_ports.proofs.PortNumbers.{same_port}
use Rattle.click_ports.proofs.PortUses.{has-end}

module _ {X : Type 0} (p : X → Bool) where
  one_more : (x : X) (xs : List X) → p x ≡ true → count_by p (x ∷ xs) ≡ 1 + count_by p xs
  one_more x xs t = sum_by-cons (λ y. cond (p y) 1 0) x xs ∙ ap (λ b. cond b 1 0 + count_by p xs) t

  -- an item that passes the test is counted
  counted : (xs : List X) (x : X) → Contains xs x → p x ≡ true → 0 < count_by p xs
  counted [] x (k, l, e) t = absurd (omega (arith, l))
  counted (y ∷ ys) x (zero, l, e) t = omega (arith, one_more y ys (ap p e ∙ t))
  counted (y ∷ ys) x (suc k, l, e) t = omega (arith, sum_by-cons (λ z. cond (p z) 1 0) y ys, counted ys x (k, omega (arith, l), e) t)

  -- if the count is positive, some item passes the test
  passing : (xs : List X) → 0 < count_by p xs → (x : X) × Contains xs x × (p x ≡ true)
  passing [] h = absurd (omega (arith, h))
  passing (y ∷ ys) h = go (p y) refl (passing ys)
    where
      go : (b : Bool) → p y ≡ b → (0 < count_by p ys → (x : X) × Contains ys x × (p x ≡ true)) → (x : X) × Contains (y ∷ ys) x × (p x ≡ true)
      go true t rest = (y, (0, omega arith, refl), t)
      go false t rest =
          let fewer : count_by p (y ∷ ys) ≡ count_by p ys = sum_by-cons (λ z. cond (p z) 1 0) y ys ∙ ap (λ b. cond b 1 0 + count_by p ys) t ∙ omega arith in
          let (x, c, u) = rest (omega (arith, fewer, h)) in
          (x, (suc c.0, omega (arith, c.1), c.2), u)

  -- if exactly one item passes the test, two that pass are the same
  alone : (xs : List X) → count_by p xs ≡ 1 → (x y : X) → Contains xs x → Contains xs y → p x ≡ true → p y ≡ true → x ≡ y
  alone [] h x y (k, l, e) c t u = absurd (omega (arith, l))
  alone (z ∷ zs) h x y (zero, l, e) (zero, m, f) t u = sym e ∙ f
  alone (z ∷ zs) h x y (zero, l, e) (suc j, m, f) t u =
      absurd (omega (arith, h, one_more z zs (ap p e ∙ t), counted zs y (j, omega (arith, m), f) u))
  alone (z ∷ zs) h x y (suc k, l, e) (zero, m, f) t u =
      absurd (omega (arith, h, one_more z zs (ap p f ∙ u), counted zs x (k, omega (arith, l), e) t))
  alone (z ∷ zs) h x y (suc k, l, e) (suc j, m, f) t u =
      let some = counted zs x (k, omega (arith, l), e) t in
      alone zs (omega (arith, h, sum_by-cons (λ w. cond (p w) 1 0) z zs, some)) x y (k, omega (arith, l), e) (j, omega (arith, m), f) t u

pub both_equal : (a b c d : ℕ) → a ≡ c → b ≡ d → (nat_eq a c && nat_eq b d) ≡ true
both_equal a b c d e f = grind (arith, nat_tests)

pub equal_both : (a b c d : ℕ) → (nat_eq a c && nat_eq b d) ≡ true → (a ≡ c) × (b ≡ d)
equal_both a b c d e = go (nat_eq a c) (nat_eq b d) refl refl e
  where
    go : (x y : Bool) → nat_eq a c ≡ x → nat_eq b d ≡ y → (x && y) ≡ true → (a ≡ c) × (b ≡ d)
    go true true r s k = (grind (arith, nat_tests), grind (arith, nat_tests))
    go true false r s k = absurd (cc k)
    go false y r s k = absurd (cc k)

joined-joins : (p : Port) (c : Connection) → joined_port p.side c ≡ p → joins p c ≡ true
joined-joins p c e = both_equal _ _ _ _ (ap (λ (q : Port). q.element) e) (ap (λ (q : Port). q.number) e)

on_side : (s : Side) (c : Connection) → (joined_port s c).side ≡ s
on_side Input c = refl
on_side Output c = refl

joins-joined : (p : Port) (c : Connection) → joins p c ≡ true → joined_port p.side c ≡ p
joins-joined p c t = let both = equal_both _ _ _ _ t in same_port (joined_port p.side c) p both.0 (on_side p.side c) both.1

-- two connections of a port that must have exactly one are the same
one_alone : (ss : List Shape) (cs : List Connection) (p : Port) (c d : Connection) → Lawful ss cs → Has cs p → IsSingle ss cs p → Contains cs c → Contains cs d → joined_port p.side c ≡ p → joined_port p.side d ≡ p → c ≡ d
one_alone ss cs p c d k h s a b e f = alone (joins p) cs (k.single p h s) c d a b (joined-joins p c e) (joined-joins p d f)

pub has-connection : (ss : List Shape) (cs : List Connection) (p : Port) → Lawful ss cs → Has cs p → (c : Connection) × Contains cs c × (joined_port p.side c ≡ p)
has-connection ss cs p k h = let (c, a, t) = passing (joins p) cs (k.connected p h) in (c, a, joins-joined p c t)

pub one-target : (ss : List Shape) (cs : List Connection) (c d : Connection) → Lawful ss cs → Contains cs c → Contains cs d → joined_port Output c ≡ joined_port Output d → IsPush ss cs (joined_port Output c) → c ≡ d
one-target ss cs c d k a b e push = one_alone ss cs (joined_port Output c) c d k (has-end cs c Output a) (push_output c.from c.out_port push) a b refl (sym e)

pub one-source : (ss : List Shape) (cs : List Connection) (c d : Connection) → Lawful ss cs → Contains cs c → Contains cs d → joined_port Input c ≡ joined_port Input d → IsPull ss cs (joined_port Input c) → c ≡ d
one-source ss cs c d k a b e pull = one_alone ss cs (joined_port Input c) c d k (has-end cs c Input a) (pull_input c.to c.in_port pull) a b refl (sym e)
