-- The last node of a pattern says what the pattern consists of.
use Rattle.std.proofs.Common.{◌≡◌, ℕ, ◌+◌, ◌<◌, List, [], ◌∷◌, ◌++◌, length, Bool, not, ◌&&◌, ◌||◌, refl, sym, ◌∙◌, ap, arith, append_assoc}
use Rattle.std.proofs.lemmas.List.{same_from_push}
use Rattle.std.proofs.Math.ListN.{length-append}
use Rattle.click_filter.specs.declared.test.Test.{Test}
use Rattle.click_filter.specs.declared.pattern.Node.{Node}
use Rattle.click_filter.specs.declared.pattern.Node.TheVariants as node
use Rattle.click_filter.specs.Tests.{holds}
use Rattle.click_filter.specs.Trees.{Tree, leaf, negated, conjunction, disjunction, Parts, first, further, truth, tests, flat}

-- a pattern with these nodes, this truth and this number of tests, by its last node
pub data View (ns : List Node) (v : List ℕ → Bool) (n : ℕ) : Type 0 where
  by_test : (x : Test) → ns ≡ node.Test x ∷ [] → ((b : List ℕ) → v b ≡ holds x b) → n ≡ 1 → View ns v n
  by_not : (u : Tree) → ns ≡ flat u ++ node.Not ∷ [] → ((b : List ℕ) → v b ≡ not (truth u b)) → n ≡ tests u → View ns v n
  by_and : (s u : Tree) → ns ≡ flat s ++ flat u ++ node.And ∷ [] → ((b : List ℕ) → v b ≡ (truth s b && truth u b)) → n ≡ tests s + tests u → View ns v n
  by_or : (s u : Tree) → ns ≡ flat s ++ flat u ++ node.Or ∷ [] → ((b : List ℕ) → v b ≡ (truth s b || truth u b)) → n ≡ tests s + tests u → View ns v n

mutual
  pub view : (t : Tree) → View (flat t) (truth t) (tests t)
  view (leaf x) = by_test x refl (λ b. refl) refl
  view (negated u) = by_not u refl (λ b. refl) refl
  view (conjunction ps) = view_all ps
  view (disjunction ps) = view_any ps

  view_all : (ps : Parts) → View (flat (conjunction ps)) (truth (conjunction ps)) (tests (conjunction ps))
  view_all (first t) = view t
  view_all (further ps t) = by_and (conjunction ps) t refl (λ b. refl) refl

  view_any : (ps : Parts) → View (flat (disjunction ps)) (truth (disjunction ps)) (tests (disjunction ps))
  view_any (first t) = view t
  view_any (further ps t) = by_or (disjunction ps) t refl (λ b. refl) refl

-- the nodes before the last node, if the pattern is the last among some
last_one : (front rest ns : List Node) (x y : Node) (u : List Node) → ns ≡ u ++ x ∷ [] → front ++ ns ≡ rest ++ y ∷ [] → (rest ≡ front ++ u) × (x ≡ y)
last_one front rest ns x y u e h =
    let q = same_from_push (front ++ u) rest x y (append_assoc front u (x ∷ []) ∙ ap (λ (m : List Node). front ++ m) (sym e) ∙ h) in
    (sym q.0, q.1)

last_two : (front rest ns : List Node) (x y : Node) (s u : List Node) → ns ≡ s ++ u ++ x ∷ [] → front ++ ns ≡ rest ++ y ∷ [] → (rest ≡ (front ++ s) ++ u) × (x ≡ y)
last_two front rest ns x y s u e h =
    let q = last_one front rest ns x y (s ++ u) e h in
    (q.0 ∙ sym (append_assoc front s u), q.1)

seen_test : (front rest ns : List Node) (v : List ℕ → Bool) (n : ℕ) (x : Test) → View ns v n → front ++ ns ≡ rest ++ node.Test x ∷ [] → (rest ≡ front) × ((b : List ℕ) → v b ≡ holds x b) × (n ≡ 1)
seen_test front rest ns v n x (by_test y e t k) h =
    let q = same_from_push front rest (node.Test y) (node.Test x) (ap (λ (m : List Node). front ++ m) (sym e) ∙ h) in
    let same : y ≡ x = cc (q.1) in
    (sym q.0, λ b. t b ∙ ap (λ (z : Test). holds z b) same, k)
seen_test front rest ns v n x (by_not u e t k) h = let q = last_one front rest ns node.Not (node.Test x) (flat u) e h in cc (q.1)
seen_test front rest ns v n x (by_and s u e t k) h = let q = last_two front rest ns node.And (node.Test x) (flat s) (flat u) e h in cc (q.1)
seen_test front rest ns v n x (by_or s u e t k) h = let q = last_two front rest ns node.Or (node.Test x) (flat s) (flat u) e h in cc (q.1)

pub at_test : (u : Tree) (front rest : List Node) (x : Test) → front ++ flat u ≡ rest ++ node.Test x ∷ [] → (rest ≡ front) × ((b : List ℕ) → truth u b ≡ holds x b) × (tests u ≡ 1)
at_test u front rest x h = seen_test front rest (flat u) (truth u) (tests u) x (view u) h

seen_not : (front rest ns : List Node) (v : List ℕ → Bool) (n : ℕ) → View ns v n → front ++ ns ≡ rest ++ node.Not ∷ [] → (u : Tree) × (rest ≡ front ++ flat u) × ((b : List ℕ) → v b ≡ not (truth u b)) × (n ≡ tests u)
seen_not front rest ns v n (by_test y e t k) h = let q = same_from_push front rest (node.Test y) node.Not (ap (λ (m : List Node). front ++ m) (sym e) ∙ h) in cc (q.1)
seen_not front rest ns v n (by_not u e t k) h = let q = last_one front rest ns node.Not node.Not (flat u) e h in (u, q.0, t, k)
seen_not front rest ns v n (by_and s u e t k) h = let q = last_two front rest ns node.And node.Not (flat s) (flat u) e h in cc (q.1)
seen_not front rest ns v n (by_or s u e t k) h = let q = last_two front rest ns node.Or node.Not (flat s) (flat u) e h in cc (q.1)

pub at_not : (u : Tree) (front rest : List Node) → front ++ flat u ≡ rest ++ node.Not ∷ [] → (w : Tree) × (rest ≡ front ++ flat w) × ((b : List ℕ) → truth u b ≡ not (truth w b)) × (tests u ≡ tests w)
at_not u front rest h = seen_not front rest (flat u) (truth u) (tests u) (view u) h

seen_and : (front rest ns : List Node) (v : List ℕ → Bool) (n : ℕ) → View ns v n → front ++ ns ≡ rest ++ node.And ∷ [] → (s u : Tree) × (rest ≡ (front ++ flat s) ++ flat u) × ((b : List ℕ) → v b ≡ (truth s b && truth u b)) × (n ≡ tests s + tests u)
seen_and front rest ns v n (by_test y e t k) h = let q = same_from_push front rest (node.Test y) node.And (ap (λ (m : List Node). front ++ m) (sym e) ∙ h) in cc (q.1)
seen_and front rest ns v n (by_not u e t k) h = let q = last_one front rest ns node.Not node.And (flat u) e h in cc (q.1)
seen_and front rest ns v n (by_and s u e t k) h = let q = last_two front rest ns node.And node.And (flat s) (flat u) e h in (s, u, q.0, t, k)
seen_and front rest ns v n (by_or s u e t k) h = let q = last_two front rest ns node.Or node.And (flat s) (flat u) e h in cc (q.1)

pub at_and : (t : Tree) (front rest : List Node) → front ++ flat t ≡ rest ++ node.And ∷ [] → (s u : Tree) × (rest ≡ (front ++ flat s) ++ flat u) × ((b : List ℕ) → truth t b ≡ (truth s b && truth u b)) × (tests t ≡ tests s + tests u)
at_and t front rest h = seen_and front rest (flat t) (truth t) (tests t) (view t) h

seen_or : (front rest ns : List Node) (v : List ℕ → Bool) (n : ℕ) → View ns v n → front ++ ns ≡ rest ++ node.Or ∷ [] → (s u : Tree) × (rest ≡ (front ++ flat s) ++ flat u) × ((b : List ℕ) → v b ≡ (truth s b || truth u b)) × (n ≡ tests s + tests u)
seen_or front rest ns v n (by_test y e t k) h = let q = same_from_push front rest (node.Test y) node.Or (ap (λ (m : List Node). front ++ m) (sym e) ∙ h) in cc (q.1)
seen_or front rest ns v n (by_not u e t k) h = let q = last_one front rest ns node.Not node.Or (flat u) e h in cc (q.1)
seen_or front rest ns v n (by_and s u e t k) h = let q = last_two front rest ns node.And node.Or (flat s) (flat u) e h in cc (q.1)
seen_or front rest ns v n (by_or s u e t k) h = let q = last_two front rest ns node.Or node.Or (flat s) (flat u) e h in (s, u, q.0, t, k)

pub at_or : (t : Tree) (front rest : List Node) → front ++ flat t ≡ rest ++ node.Or ∷ [] → (s u : Tree) × (rest ≡ (front ++ flat s) ++ flat u) × ((b : List ℕ) → truth t b ≡ (truth s b || truth u b)) × (tests t ≡ tests s + tests u)
at_or t front rest h = seen_or front rest (flat t) (truth t) (tests t) (view t) h

longer : (s : List Node) (x : Node) → 0 < length (s ++ x ∷ [])
longer s x = simp length-append (omega arith)

seen_some : (ns : List Node) (v : List ℕ → Bool) (n : ℕ) → View ns v n → 0 < length ns
seen_some ns v n (by_test y e t k) = rw e (omega arith)
seen_some ns v n (by_not u e t k) = rw e (longer (flat u) node.Not)
seen_some ns v n (by_and s u e t k) = rw e (longer (flat s ++ flat u) node.And)
seen_some ns v n (by_or s u e t k) = rw e (longer (flat s ++ flat u) node.Or)

-- a pattern has a node
pub some_node : (t : Tree) → 0 < length (flat t)
some_node t = seen_some (flat t) (truth t) (tests t) (view t)
