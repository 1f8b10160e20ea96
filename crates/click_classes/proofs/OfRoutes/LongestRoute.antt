-- A lookup finds the entry with the longest prefix.
use Rattle.std.proofs.Common.{◌≡◌, ℕ, zero, suc, ◌≤◌, List, [], ◌∷◌, true, false, Option, Some, None, nat_lt, refl, sym, ap, ◌∙◌, subst, arith, inl, inr}
use Rattle.std.specs.Prelude.{slice_get}
use Rattle.std.proofs.lemmas.Bool.{cases_Bool, cases_lt}
use Rattle.std.proofs.lemmas.Bool.Decides.{nat_tests}
use Rattle.std.proofs.lemmas.Slice.Eq.{bytes_eq-Decides}
use Rattle.click_classes.specs.declared.values.entry.Entry.{Entry}
use Rattle.click_classes.specs.declared.values.prefix.Prefix.{Prefix}
use Rattle.click_classes.specs.Routes.{Covers, IsRoute, covers, longer, route}
use Rattle.click_classes.specs.Values.{cleared}

covers-Covers : (p : Prefix) (a : List ℕ) → covers p a ≡ true → Covers p a
covers-Covers p a h = (bytes_eq-Decides (cleared p.len a) p.network).0 h

Covers-covers : (p : Prefix) (a : List ℕ) → Covers p a → covers p a ≡ true
Covers-covers p a h = (bytes_eq-Decides (cleared p.len a) p.network).1 h

-- ---- no entry is found

none-step : (d : Entry) (es : List Entry) (a : List ℕ) → covers d.prefix a ≡ false
    → ((k : ℕ) (f : Entry) → slice_get es k ≡ Some f → Covers f.prefix a → ⊥)
    → (k : ℕ) (f : Entry) → slice_get (d ∷ es) k ≡ Some f → Covers f.prefix a → ⊥
none-step d es a t h zero f g c =
    let same : d ≡ f = cc in
    let u : covers d.prefix a ≡ true = ap (λ (x : Entry). covers x.prefix a) same ∙ Covers-covers f.prefix a c in
    cc
none-step d es a t h (suc k) f g c = h k f g c

pub route-none : (es : List Entry) (a : List ℕ) → route es a ≡ None → (k : ℕ) (f : Entry) → slice_get es k ≡ Some f → Covers f.prefix a → ⊥
route-none [] a h k f g c = cc
route-none (d ∷ es) a h k f g c = elim (cases_Bool (covers d.prefix a)) [
  | inl t ↦ let u = rw t at h in cc
  | inr t ↦ let u = rw t at h in none-step d es a t (λ j e i b. route-none es a u j e i b) k f g c
]

-- ---- an entry is found

longest-first : (d : Entry) (es : List Entry) (a : List ℕ)
    → ((k : ℕ) (f : Entry) → slice_get es k ≡ Some f → Covers f.prefix a → f.prefix.len ≤ d.prefix.len)
    → (k : ℕ) (f : Entry) → slice_get (d ∷ es) k ≡ Some f → Covers f.prefix a → f.prefix.len ≤ d.prefix.len
longest-first d es a h zero f g c =
    let same : d ≡ f = cc in
    let len = ap (λ (x : Entry). x.prefix.len) same in
    omega (arith, len)
longest-first d es a h (suc k) f g c = h k f g c

longest-further : (d : Entry) (es : List Entry) (a : List ℕ) (e : Entry) → IsRoute es a e → (covers d.prefix a ≡ true → d.prefix.len ≤ e.prefix.len)
    → (k : ℕ) (f : Entry) → slice_get (d ∷ es) k ≡ Some f → Covers f.prefix a → f.prefix.len ≤ e.prefix.len
longest-further d es a e r h zero f g c =
    let same : d ≡ f = cc in
    let len = ap (λ (x : Entry). x.prefix.len) same in
    let there = h (ap (λ (x : Entry). covers x.prefix a) same ∙ Covers-covers f.prefix a c) in
    omega (arith, len, there)
longest-further d es a e r h (suc k) f g c = r.longest k f g c

first-route : (d : Entry) (es : List Entry) (a : List ℕ) → covers d.prefix a ≡ true
    → ((k : ℕ) (f : Entry) → slice_get es k ≡ Some f → Covers f.prefix a → f.prefix.len ≤ d.prefix.len) → IsRoute (d ∷ es) a d
first-route d es a t h = record {
  place = 0;
  there = refl;
  covers = covers-Covers d.prefix a t;
  longest = longest-first d es a h;
}

further-route : (d : Entry) (es : List Entry) (a : List ℕ) (e : Entry) → IsRoute es a e → (covers d.prefix a ≡ true → d.prefix.len ≤ e.prefix.len)
    → IsRoute (d ∷ es) a e
further-route d es a e r h = record {
  place = suc r.place;
  there = r.there;
  covers = r.covers;
  longest = longest-further d es a e r h;
}

of_two : (d : Entry) (es : List Entry) (a : List ℕ) (r : Option Entry) → covers d.prefix a ≡ true → route es a ≡ r
    → ((f : Entry) → r ≡ Some f → IsRoute es a f) → IsRoute (d ∷ es) a (longer d r)
of_two d es a None t is h = first-route d es a t (λ k f g c. absurd (route-none es a is k f g c))
of_two d es a (Some f) t is h =
    let r = h f refl in
    elim (cases_lt d.prefix.len f.prefix.len) [
      | inl l ↦
          let b : nat_lt d.prefix.len f.prefix.len ≡ true = grind (arith, nat_tests) in
          rw b (further-route d es a f r (λ _. omega arith))
      | inr l ↦
          let b : nat_lt d.prefix.len f.prefix.len ≡ false = grind (arith, nat_tests) in
          rw b (first-route d es a t (λ k e g c. omega (arith, r.longest k e g c)))
    ]

pub route-some : (es : List Entry) (a : List ℕ) (e : Entry) → route es a ≡ Some e → IsRoute es a e
route-some [] a e h = cc
route-some (d ∷ es) a e h = elim (cases_Bool (covers d.prefix a)) [
  | inl t ↦
      let u : longer d (route es a) ≡ e = let v = rw t at h in cc in
      subst (λ (x : Entry). IsRoute (d ∷ es) a x) u (of_two d es a (route es a) t refl (λ f i. route-some es a f i))
  | inr t ↦
      let u = rw t at h in
      further-route d es a e (route-some es a e u) (λ q. let w : false ≡ true = sym t ∙ q in cc)
]
