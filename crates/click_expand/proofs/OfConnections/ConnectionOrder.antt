-- Connections in order.
use Rattle.std.proofs.Common.{◌≡◌, ℕ, ◌<◌, List, [], ◌∷◌, Bool, true, ◌&&◌, nat_eq, Ordering, Less, Equal, Greater, refl, ap, ◌∙◌, inl, inr, ◌⊎◌, arith, nat_cmp}
use Rattle.std.specs.Cmp.{IsTotalOrder, IsEquivalence}
use Rattle.std.specs.List.{AllByRecursion}
use Rattle.std.specs.List.Sorted.{IsStrictlySortedBy}
use Rattle.std.specs.Ordering.{on, then_cmp, ordering_then, eq_by_cmp}
use Rattle.std.proofs.lemmas.Bool.{and_parts, eqb-true}
use Rattle.std.proofs.lemmas.Bool.Decides.{nat_tests}
use Rattle.std.proofs.lemmas.Cmp.{nat_cmp_total, on_total, then_total, nat_eq_equiv, on_equiv, and_equiv}
use Rattle.std.proofs.lemmas.Map.Keys.{sorted_head, sorted_tail}
use Rattle.click_expand.specs.declared.flat.Connection.{Connection}
use Rattle.std.specs.List.{All}
use Rattle.std.proofs.lemmas.List.Elements.{All-nil, All-cons}
use Rattle.click_expand.specs.Flat.{StandsBefore, AreOrdered}

-- the derived comparison
abbrev pub compare : Connection → Connection → Ordering
compare = then_cmp (on (λ c. c.from) nat_cmp) (then_cmp (on (λ c. c.out_port) nat_cmp) (then_cmp (on (λ c. c.to) nat_cmp) (on (λ c. c.in_port) nat_cmp)))

pub compare_total : IsTotalOrder compare
compare_total = then_total (on_total (λ c. c.from) nat_cmp_total) (then_total (on_total (λ c. c.out_port) nat_cmp_total) (then_total (on_total (λ c. c.to) nat_cmp_total) (on_total (λ c. c.in_port) nat_cmp_total)))

-- the derived equality test
abbrev pub same : Connection → Connection → Bool
same c d = nat_eq c.from d.from && (nat_eq c.out_port d.out_port && (nat_eq c.to d.to && nat_eq c.in_port d.in_port))

pub same_equiv : IsEquivalence same
same_equiv = and_equiv (on_equiv (λ c. c.from) nat_eq_equiv) (and_equiv (on_equiv (λ c. c.out_port) nat_eq_equiv) (and_equiv (on_equiv (λ c. c.to) nat_eq_equiv) (on_equiv (λ c. c.in_port) nat_eq_equiv)))

pub ties : (c d : Connection) → same c d ≡ eq_by_cmp compare c d
ties c d = grind (arith, nat_tests)

abbrev connection : ℕ → ℕ → ℕ → ℕ → Connection
connection a b c d = record { from = a; out_port = b; to = c; in_port = d }

pub exact : (c d : Connection) → same c d ≡ true → c ≡ d
exact c d h =
    let a = and_parts _ _ h in let b = and_parts _ _ a.1 in let e = and_parts _ _ b.1 in
    let p = eqb-true c.from d.from a.0 in let q = eqb-true c.out_port d.out_port b.0 in let r = eqb-true c.to d.to e.0 in let s = eqb-true c.in_port d.in_port e.1 in
    ap (λ x. connection x c.out_port c.to c.in_port) p ∙ ap (λ x. connection d.from x c.to c.in_port) q
    ∙ ap (λ x. connection d.from d.out_port x c.in_port) r ∙ ap (λ x. connection d.from d.out_port d.to x) s

then_less : (o p : Ordering) → ordering_then o p ≡ Less → (o ≡ Less) ⊎ ((o ≡ Equal) × (p ≡ Less))
then_less Less p h = inl refl
then_less Equal p h = inr (refl, h)
then_less Greater p h = absurd cc

nat_less : (a b : ℕ) → nat_cmp a b ≡ Less → a < b
nat_less a b h = grind (arith, nat_tests)

nat_equal : (a b : ℕ) → nat_cmp a b ≡ Equal → a ≡ b
nat_equal a b h = grind (arith, nat_tests)

-- compared by one number, and then by the rest
by_number : (a b : ℕ) (o : Ordering) {P : Type 0} → (o ≡ Less → P) → ordering_then (nat_cmp a b) o ≡ Less → (a < b) ⊎ ((a ≡ b) × P)
by_number a b o f h = elim (then_less (nat_cmp a b) o h) [ inl l ↦ inl (nat_less a b l) | inr e ↦ inr (nat_equal a b e.0, f e.1) ]

Before-from_less : (c d : Connection) → compare c d ≡ Less → StandsBefore c d
Before-from_less c d h =
    by_number c.from d.from _ (λ h. by_number c.out_port d.out_port _ (λ h. by_number c.to d.to _ (λ h. nat_less c.in_port d.in_port h) h) h) h

all_before : (c : Connection) (ds : List Connection) → AllByRecursion (λ d. compare c d ≡ Less) ds → All (StandsBefore c) ds
all_before c [] h = All-nil (StandsBefore c)
all_before c (d ∷ ds) h = All-cons (StandsBefore c) d ds (Before-from_less c d h.0) (all_before c ds h.1)

pub InOrder-from_sorted : (cs : List Connection) → IsStrictlySortedBy compare cs → AreOrdered cs
InOrder-from_sorted [] h = tt
InOrder-from_sorted (c ∷ cs) h = (all_before c cs (sorted_head compare c cs h), InOrder-from_sorted cs (sorted_tail compare c cs h))
