-- A table has at most one entry for an address.
use Rattle.std.proofs.Common.{◌≡◌, ◌==◌, ◌⊎◌, ℕ, zero, suc, List, [], ◌∷◌, ◌++◌, true, false, Some, Ok, refl, sym, ap, ◌∙◌, arith, inl, inr}
use Rattle.std.specs.Prelude.{slice_get}
use Rattle.std.specs.Str.{bytes_eq}
use Rattle.std.proofs.lemmas.Bool.{cases_Bool}
use Rattle.std.proofs.lemmas.Bool.Decides.{nat_tests}
use Rattle.std.proofs.lemmas.Slice.Eq.{bytes_eq-Decides}
use Rattle.click_classes.specs.declared.values.entry.Entry.{Entry}
use Rattle.click_classes.specs.declared.values.prefix.Prefix.{Prefix}
use Rattle.click_classes.specs.Entries.{entry, same_prefix, has_prefix, with_entry, table}
use Rattle.click_classes.specs.Routes.{IsRoute}
use Rattle.click_classes.specs.Values.{cleared}
use Rattle.click_classes.proofs.OfPorts.PortUses.{both_ok, with_entry_is}

-- entries with the same prefix are the same
pub record AreApart (es : List Entry) : Type 0 where
  pub apart : (i j : ℕ) (e f : Entry) → slice_get es i ≡ Some e → slice_get es j ≡ Some f → e.prefix.len ≡ f.prefix.len → e.prefix.network ≡ f.prefix.network → e ≡ f

same : (p q : Prefix) → p.len ≡ q.len → p.network ≡ q.network → same_prefix p q ≡ true
same p q l n =
    let a : (p.len == q.len) ≡ true = grind (arith, nat_tests) in
    let b : bytes_eq p.network q.network ≡ true = (bytes_eq-Decides p.network q.network).1 n in
    rw (a, b) refl

-- if no entry of a table has the prefix p, an entry of it has another prefix
has_not : (es : List Entry) (i : ℕ) (e : Entry) (p : Prefix) → has_prefix es p ≡ false → slice_get es i ≡ Some e → e.prefix.len ≡ p.len → e.prefix.network ≡ p.network → ⊥
has_not [] i e p h g l n = cc
has_not (d ∷ es) zero e p h g l n =
    let first : d ≡ e = cc in
    let t : same_prefix d.prefix p ≡ true = rw first (same e.prefix p l n) in
    let u = rw t at h in
    cc
has_not (d ∷ es) (suc i) e p h g l n = elim (cases_Bool (same_prefix d.prefix p)) [
  | inl t ↦ let u = rw t at h in cc
  | inr t ↦ let u = rw t at h in has_not es i e p u g l n
]

-- an entry of a longer table is in the table or is the last one
in_longer : (es : List Entry) (x : Entry) (i : ℕ) (e : Entry) → slice_get (es ++ x ∷ []) i ≡ Some e → (slice_get es i ≡ Some e) ⊎ (e ≡ x)
in_longer [] x zero e h = inr (cc)
in_longer [] x (suc i) e h = cc
in_longer (d ∷ es) x zero e h = inl h
in_longer (d ∷ es) x (suc i) e h = in_longer es x i e h

apart_push : (es : List Entry) (x : Entry) → AreApart es → has_prefix es x.prefix ≡ false → AreApart (es ++ x ∷ [])
apart_push es x d h = record {
  apart = λ i j e f g k l n. elim (in_longer es x i e g) [
    | inl a ↦ elim (in_longer es x j f k) [
      | inl b ↦ d.apart i j e f a b l n
      | inr b ↦ absurd (has_not es i e x.prefix h a (l ∙ ap (λ (y : Entry). y.prefix.len) b) (n ∙ ap (λ (y : Entry). y.prefix.network) b))
    ]
    | inr a ↦ elim (in_longer es x j f k) [
      | inl b ↦ absurd (has_not es j f x.prefix h b (sym l ∙ ap (λ (y : Entry). y.prefix.len) a) (sym n ∙ ap (λ (y : Entry). y.prefix.network) a))
      | inr b ↦ a ∙ sym b
    ]
  ];
}

table_apart : (es : List Entry) (args : List (List (List ℕ))) (all : List Entry) → AreApart es → Ok all ≡ table es args → AreApart all
table_apart es [] all d e = let f : es ≡ all = cc in rw (← f) d
table_apart es (words ∷ args) all d e =
    let first = both_ok (entry words) _ all e in
    let next = both_ok (with_entry es first.0) _ all first.2 in
    let longer = with_entry_is es first.0 next.0 next.1 in
    let more : AreApart next.0 = rw longer.1 (apart_push es first.0 d longer.0) in
    table_apart next.0 args all more next.2

none_apart : AreApart []
none_apart = record { apart = λ i j e f g k l n. cc }

-- a table has at most one entry for an address
pub one_route_at : (words : List (List (List ℕ))) (es : List Entry) (address : List ℕ) (e f : Entry) → table [] words ≡ Ok es → IsRoute es address e → IsRoute es address f → e ≡ f
one_route_at words es address e f made r s =
    let d = table_apart [] words es none_apart (sym made) in
    let more = r.longest s.place f s.there s.covers in
    let less = s.longest r.place e r.there r.covers in
    let l : e.prefix.len ≡ f.prefix.len = omega arith in
    let n : e.prefix.network ≡ f.prefix.network = sym r.covers ∙ ap (λ len. cleared len address) l ∙ s.covers in
    d.apart r.place s.place e f r.there s.there l n
