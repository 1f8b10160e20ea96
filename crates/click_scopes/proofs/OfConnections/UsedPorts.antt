-- The used ports of a body, one after another.
use Rattle.std.proofs.Common.{◌≡◌, ◌≢◌, inl, inr, ℕ, ◌+◌, ◌<◌, ◌≤◌, max, List, [], ◌∷◌, ◌++◌, length, get_or, set, take, replicate, Bool, true, false, ◌||◌, nat_eq, refl, sym, ap, ◌∙◌, subst, arith, Contains}
use Rattle.std.proofs.lemmas.Bool.{cases_order}
use Rattle.std.proofs.lemmas.Bool.Decides.{nat_tests}
use Rattle.std.proofs.lemmas.List.{append-nil, length-set, length-replicate, get_or-set_same, get_or-set_other, get_or-replicate, take_more}
use Rattle.click_scopes.specs.Faults.{port_count}
use Rattle.click_scopes.specs.kept.CompoundFaults.{from_input, to_output, inputs_kept, outputs_kept, HasGap, has_port, IsUsed}
use Rattle.click_scopes.specs.declared.written_connections.Owner.{Owner}
use Rattle.click_scopes.specs.declared.written_connections.Owner.TheVariants as owner
use Rattle.click_scopes.specs.declared.written_connections.WrittenConnection.{WrittenConnection as ConnectionKept}
use Rattle.click_scopes.proofs.OfElements.StatementElements.{any_push}
use Rattle.click_scopes.proofs.OfBodies.OneBodyPlace.{contains-nil, contains-cons}
use Rattle.click_scopes.proofs.OfLists.ListParts.{contains-here, contains-behind}

count-push : (ps : List ℕ) (p : ℕ) → port_count (ps ++ p ∷ []) ≡ max (port_count ps) (p + 1)
count-push [] p = omega arith
count-push (q ∷ ps) p = let e = count-push ps p in omega (arith, e)

eq-true : (a b : ℕ) → nat_eq a b ≡ true → a ≡ b
eq-true a b h = grind (arith, nat_tests)

eq-same : (a b : ℕ) → a ≡ b → nat_eq a b ≡ true
eq-same a b h = grind (arith, nat_tests)

eq-other : (a b : ℕ) → a ≢ b → nat_eq a b ≡ false
eq-other a b h = grind (arith, nat_tests)

pub has-contains : (ps : List ℕ) (p : ℕ) → has_port p ps ≡ true → Contains ps p
has-contains [] p h = absurd (cc h)
has-contains (q ∷ ps) p h = by_test (has-contains ps p) (nat_eq p q) refl h
  where
    by_test : (has_port p ps ≡ true → Contains ps p) → (b : Bool) → nat_eq p q ≡ b → (b || has_port p ps) ≡ true → Contains (q ∷ ps) p
    by_test f true e k = subst (λ x. Contains (x ∷ ps) p) (eq-true p q e) (contains-here p ps)
    by_test f false e k = contains-behind q ps p (f k)

pub contains-has : (ps : List ℕ) (p : ℕ) → Contains ps p → has_port p ps ≡ true
contains-has [] p h = absurd (contains-nil p h)
contains-has (q ∷ ps) p h =
    elim (contains-cons q ps p h) [
      | inl e ↦ ap (λ b. b || has_port p ps) (eq-same p q (sym e))
      | inr i ↦ (let r = contains-has ps p i in elim (nat_eq p q) as (λ b. (b || has_port p ps) ≡ true) [ true ↦ refl | false ↦ r ])
    ]

pub used-none : (flags : List Bool) → flags ≡ replicate 256 false → IsUsed [] 0 flags
used-none flags e = record {
  size = ap length e ∙ length-replicate 256 false;
  counts = refl;
  each = λ p l. ap (λ (xs : List Bool). get_or xs p false) e ∙ get_or-replicate 256 p false false l;
}

pub used-add : (ports : List ℕ) (count port new : ℕ) (flags : List Bool) → port < 256 → new ≡ max count (port + 1) → IsUsed ports count flags → IsUsed (ports ++ port ∷ []) new (set flags port true)
used-add ports count port new flags l is u = record {
  size = length-set flags port true ∙ u.size;
  counts = is ∙ ap (λ n. max n (port + 1)) u.counts ∙ sym (count-push ports port);
  each = λ p m. elim (cases_order p port) [
    | inl e ↦
        ap (λ n. get_or (set flags port true) n false) e ∙ get_or-set_same flags port true false (let s = u.size in omega (arith, l, s))
        ∙ sym (elim (has_port p ports) as (λ b. (b || true) ≡ true) [ true ↦ refl | false ↦ refl ]) ∙ ap (λ b. has_port p ports || b) (sym (eq-same p port e)) ∙ sym (any_push (nat_eq p) ports port)
    | inr (inl s) ↦ other p m (omega (arith, s))
    | inr (inr s) ↦ other p m (omega (arith, s))
  ];
}
  where
    other : (p : ℕ) → p < 256 → p ≢ port → get_or (set flags port true) p false ≡ has_port p (ports ++ port ∷ [])
    other p m d =
        get_or-set_other flags port p true false d ∙ u.each p m
        ∙ (elim (has_port p ports) as (λ b. b ≡ (b || false)) [ true ↦ refl | false ↦ refl ]) ∙ ap (λ b. has_port p ports || b) (sym (eq-other p port d)) ∙ sym (any_push (nat_eq p) ports port)

pub gap-found : (ports : List ℕ) (count place : ℕ) (flags : List Bool) → IsUsed ports count flags → count ≤ 256 → place < count → get_or flags place false ≡ false → HasGap ports
gap-found ports count place flags u few l h = record {
  port = place;
  below = (let s = u.counts in omega (arith, s, l));
  unused = λ i. let t : has_port place ports ≡ true = contains-has ports place i in let f = u.each place (omega (arith, l, few)) in cc (t, f, h);
}

pub gap-none : (ports : List ℕ) (count : ℕ) (flags : List Bool) → IsUsed ports count flags → count ≤ 256 → ((k : ℕ) → k < count → get_or flags k false ≡ true) → HasGap ports → ⊥
gap-none ports count flags u few all g =
    let l : g.port < count = (let s = u.counts in let b = g.below in omega (arith, s, b)) in
    g.unused (has-contains ports g.port (sym (u.each g.port (omega (arith, l, few))) ∙ all g.port l))

input-more : (o : Owner) (p : ℕ) (xs ys : List ℕ) → from_input o p (xs ++ ys) ≡ from_input o p xs ++ ys
input-more owner.Input p xs ys = refl
input-more owner.Output p xs ys = refl
input-more (owner.Element i) p xs ys = refl

output-more : (o : Owner) (p : ℕ) (xs ys : List ℕ) → to_output o p (xs ++ ys) ≡ to_output o p xs ++ ys
output-more owner.Input p xs ys = refl
output-more owner.Output p xs ys = refl
output-more (owner.Element i) p xs ys = refl

inputs-push : (ks : List ConnectionKept) (k : ConnectionKept) → inputs_kept (ks ++ k ∷ []) ≡ inputs_kept ks ++ from_input k.from.owner k.out_port []
inputs-push [] k = refl
inputs-push (j ∷ ks) k = ap (from_input j.from.owner j.out_port) (inputs-push ks k) ∙ input-more j.from.owner j.out_port (inputs_kept ks) (from_input k.from.owner k.out_port [])

outputs-push : (ks : List ConnectionKept) (k : ConnectionKept) → outputs_kept (ks ++ k ∷ []) ≡ outputs_kept ks ++ to_output k.to.owner k.in_port []
outputs-push [] k = refl
outputs-push (j ∷ ks) k = ap (to_output j.to.owner j.in_port) (outputs-push ks k) ∙ output-more j.to.owner j.in_port (outputs_kept ks) (to_output k.to.owner k.in_port [])

module _ (ks : List ConnectionKept) (i : ℕ) (d k : ConnectionKept) (l : i < length ks) (is : k ≡ get_or ks i d) where
  inputs-next : inputs_kept (take (i + 1) ks) ≡ inputs_kept (take i ks) ++ from_input k.from.owner k.out_port []
  inputs-next = ap inputs_kept (take_more ks i d l ∙ ap (λ x. take i ks ++ x ∷ []) (sym is)) ∙ inputs-push (take i ks) k

  outputs-next : outputs_kept (take (i + 1) ks) ≡ outputs_kept (take i ks) ++ to_output k.to.owner k.in_port []
  outputs-next = ap outputs_kept (take_more ks i d l ∙ ap (λ x. take i ks ++ x ∷ []) (sym is)) ∙ outputs-push (take i ks) k

not-input : (o : Owner) (p : ℕ) → (o ≡ owner.Input → ⊥) → from_input o p [] ≡ []
not-input owner.Input p h = absurd (h refl)
not-input owner.Output p h = refl
not-input (owner.Element i) p h = refl

not-output : (o : Owner) (p : ℕ) → (o ≡ owner.Output → ⊥) → to_output o p [] ≡ []
not-output owner.Input p h = refl
not-output owner.Output p h = absurd (h refl)
not-output (owner.Element i) p h = refl

module _ (ks : List ConnectionKept) (i : ℕ) (d k : ConnectionKept) (l : i < length ks) (is : k ≡ get_or ks i d) where
  pub inputs-yes : k.from.owner ≡ owner.Input → inputs_kept (take (i + 1) ks) ≡ inputs_kept (take i ks) ++ k.out_port ∷ []
  inputs-yes h = inputs-next ks i d k l is ∙ ap (λ o. inputs_kept (take i ks) ++ from_input o k.out_port []) h

  pub inputs-no : (k.from.owner ≡ owner.Input → ⊥) → inputs_kept (take (i + 1) ks) ≡ inputs_kept (take i ks)
  inputs-no h = inputs-next ks i d k l is ∙ ap (λ ps. inputs_kept (take i ks) ++ ps) (not-input k.from.owner k.out_port h) ∙ append-nil (inputs_kept (take i ks))

  pub outputs-yes : k.to.owner ≡ owner.Output → outputs_kept (take (i + 1) ks) ≡ outputs_kept (take i ks) ++ k.in_port ∷ []
  outputs-yes h = outputs-next ks i d k l is ∙ ap (λ o. outputs_kept (take i ks) ++ to_output o k.in_port []) h

  pub outputs-no : (k.to.owner ≡ owner.Output → ⊥) → outputs_kept (take (i + 1) ks) ≡ outputs_kept (take i ks)
  outputs-no h = outputs-next ks i d k l is ∙ ap (λ ps. outputs_kept (take i ks) ++ ps) (not-output k.to.owner k.in_port h) ∙ append-nil (outputs_kept (take i ks))
