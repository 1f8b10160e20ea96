-- If entries are sorted with the longest prefixes first, the first one that covers an address is
-- its route.
use Rattle.std.proofs.Common.{◌≡◌, ◌==◌, ℕ, zero, suc, ◌<◌, ◌≤◌, List, [], ◌∷◌, ◌++◌, true, false, Option, Some, None, nat_lt, refl, sym, ap, ◌∙◌, arith, inl, inr}
use Rattle.std.specs.Prelude.{map, if◌then◌else◌}
use Rattle.std.specs.List.{All, filter}
use Rattle.std.proofs.lemmas.Bool.{cases_Bool, cases_lt}
use Rattle.std.proofs.lemmas.Bool.Decides.{nat_tests}
use Rattle.std.proofs.lemmas.List.Elements.{All-head, All-tail}
use Rattle.click_classes.specs.declared.values.entry.Entry.{Entry}
use Rattle.click_classes.specs.declared.routes.Row.{Row}
use Rattle.click_classes.specs.Routes.{covers, longer, route}
use Rattle.click_classes.specs.kept.Rows.{IsAddress, word, IsShort, has_len, longest_first, entry_of, IsReady, first_found}

-- the first of two options that has a value
either : Option Entry → Option Entry → Option Entry
either None o = o
either (Some e) o = Some e

-- the first entry that covers an address
first_covering : List Entry → List ℕ → Option Entry
first_covering [] a = None
first_covering (e ∷ es) a = if covers e.prefix a then Some e else first_covering es a

first_covering-append : (es fs : List Entry) (a : List ℕ) → first_covering (es ++ fs) a ≡ either (first_covering es a) (first_covering fs a)
unfolding either first_covering
first_covering-append [] fs a = refl
first_covering-append (e ∷ es) fs a = elim (cases_Bool (covers e.prefix a)) [
  | inl t ↦ rw t refl
  | inr t ↦ rw t (first_covering-append es fs a)
]

-- the entries whose prefixes are shorter than n
abbrev shorter : ℕ → List Entry → List Entry
shorter n es = filter (λ e. nat_lt e.prefix.len n) es

of_two : (n : ℕ) (d : Entry) (o : Option Entry) (e : Entry) → d.prefix.len < n → ((x : Entry) → o ≡ Some x → x.prefix.len < n) → Some (longer d o) ≡ Some e → e.prefix.len < n
of_two n d None e l h i = let same : d ≡ e = cc in rw (← same) l
of_two n d (Some x) e l h i = elim (cases_Bool (nat_lt d.prefix.len x.prefix.len)) [
  | inl t ↦ let j = rw t at i in let same : x ≡ e = cc in rw (← same) (h x refl)
  | inr t ↦ let j = rw t at i in let same : d ≡ e = cc in rw (← same) l
]

route-shorter : (n : ℕ) (es : List Entry) (a : List ℕ) (e : Entry) → route (shorter n es) a ≡ Some e → e.prefix.len < n
route-shorter n [] a e h = cc
route-shorter n (d ∷ es) a e h = elim (cases_lt d.prefix.len n) [
  | inl l ↦
      let b : nat_lt d.prefix.len n ≡ true = grind (arith, nat_tests) in
      let g = rw b at h in
      elim (cases_Bool (covers d.prefix a)) [
        | inl t ↦ let f = rw t at g in of_two n d (route (shorter n es) a) e l (λ x i. route-shorter n es a x i) f
        | inr t ↦ let f = rw t at g in route-shorter n es a e f
      ]
  | inr l ↦
      let b : nat_lt d.prefix.len n ≡ false = grind (arith, nat_tests) in
      let g = rw b at h in
      route-shorter n es a e g
]

first_covering-has_len : (n : ℕ) (es : List Entry) (a : List ℕ) (e : Entry) → first_covering (filter (has_len n) es) a ≡ Some e → e.prefix.len ≡ n
unfolding first_covering
first_covering-has_len n [] a e h = cc
first_covering-has_len n (d ∷ es) a e h = elim (cases_Bool (d.prefix.len == n)) [
  | inl b ↦
      let l : d.prefix.len ≡ n = grind (arith, nat_tests) in
      let g = rw b at h in
      elim (cases_Bool (covers d.prefix a)) [
        | inl t ↦ let f = rw t at g in let same : d ≡ e = cc in rw (← same) l
        | inr t ↦ let f = rw t at g in first_covering-has_len n es a e f
      ]
  | inr b ↦ let g = rw b at h in first_covering-has_len n es a e g
]

-- an entry with a shorter prefix before others
before_longer : (n : ℕ) (d : Entry) (o p : Option Entry) → d.prefix.len < n → ((x : Entry) → o ≡ Some x → x.prefix.len ≡ n) → Some (longer d (either o p)) ≡ either o (Some (longer d p))
unfolding either
before_longer n d None p l h = refl
before_longer n d (Some x) p l h =
    let e = h x refl in
    let b : nat_lt d.prefix.len x.prefix.len ≡ true = grind (arith, nat_tests) in
    rw b refl

-- an entry before others whose prefixes are no longer
before_shorter : (n : ℕ) (d : Entry) (o : Option Entry) → d.prefix.len ≡ n → ((x : Entry) → o ≡ Some x → x.prefix.len < suc n) → longer d o ≡ d
before_shorter n d None l h = refl
before_shorter n d (Some x) l h =
    let e = h x refl in
    let b : nat_lt d.prefix.len x.prefix.len ≡ false = grind (arith, nat_tests) in
    rw b refl

-- entries with prefixes of length n come before those with shorter ones
one_length : (n : ℕ) (es : List Entry) (a : List ℕ) → route (shorter (suc n) es) a ≡ either (first_covering (filter (has_len n) es) a) (route (shorter n es) a)
unfolding either first_covering
one_length n [] a = refl
one_length n (d ∷ es) a = elim (cases_lt d.prefix.len n) [
  | inl l ↦
      let b : nat_lt d.prefix.len n ≡ true = grind (arith, nat_tests) in
      let c : (d.prefix.len == n) ≡ false = grind (arith, nat_tests) in
      let f : nat_lt d.prefix.len (suc n) ≡ true = grind (arith, nat_tests) in
      rw (b, c, f) (elim (cases_Bool (covers d.prefix a)) [
        | inl t ↦ rw (t, one_length n es a) (before_longer n d (first_covering (filter (has_len n) es) a) (route (shorter n es) a) l (λ x i. first_covering-has_len n es a x i))
        | inr t ↦ rw t (one_length n es a)
      ])
  | inr l ↦ elim (cases_Bool (d.prefix.len == n)) [
    | inl c ↦
        let same : d.prefix.len ≡ n = grind (arith, nat_tests) in
        let b : nat_lt d.prefix.len n ≡ false = grind (arith, nat_tests) in
        let f : nat_lt d.prefix.len (suc n) ≡ true = grind (arith, nat_tests) in
        rw (b, c, f) (elim (cases_Bool (covers d.prefix a)) [
          | inl t ↦ rw t (ap Some (before_shorter n d (route (shorter (suc n) es) a) same (λ x i. route-shorter (suc n) es a x i)))
          | inr t ↦ rw t (one_length n es a)
        ])
    | inr c ↦
        let b : nat_lt d.prefix.len n ≡ false = grind (arith, nat_tests) in
        let f : nat_lt d.prefix.len (suc n) ≡ false = grind (arith, nat_tests) in
        rw (b, c, f) (one_length n es a)
  ]
]

none_shorter : (es : List Entry) (a : List ℕ) → route (shorter 0 es) a ≡ None
none_shorter [] a = refl
none_shorter (d ∷ es) a =
    let b : nat_lt d.prefix.len 0 ≡ false = grind (arith, nat_tests) in
    rw b (none_shorter es a)

first_is_route : (n : ℕ) (es : List Entry) (a : List ℕ) → first_covering (longest_first n es) a ≡ route (shorter n es) a
unfolding first_covering longest_first
first_is_route zero es a = sym (none_shorter es a)
first_is_route (suc n) es a =
    first_covering-append (filter (has_len n) es) (longest_first n es) a
    ∙ ap (either (first_covering (filter (has_len n) es) a)) (first_is_route n es a)
    ∙ sym (one_length n es a)

all_shorter : (es : List Entry) → All IsShort es → shorter 33 es ≡ es
all_shorter [] h = refl
all_shorter (d ∷ es) h =
    let l : d.prefix.len ≤ 32 = All-head IsShort d es h in
    let b : nat_lt d.prefix.len 33 ≡ true = grind (arith, nat_tests) in
    rw b (ap (λ (fs : List Entry). d ∷ fs) (all_shorter es (All-tail IsShort d es h)))

first_row : (rs : List Row) (a : List ℕ) → IsAddress a → All IsReady rs → first_found rs (word a) ≡ first_covering (map entry_of rs) a
unfolding first_covering
first_row [] a i h = refl
first_row (r ∷ rs) a i h =
    let ready : IsReady r = All-head IsReady r rs h in
    rw (ready.fits_covers a i, first_row rs a i (All-tail IsReady r rs h)) refl

-- the first row that fits an address is its route
pub rows_route : (rs : List Row) (es : List Entry) → All IsReady rs → All IsShort es → map entry_of rs ≡ longest_first 33 es → (a : List ℕ) → IsAddress a → first_found rs (word a) ≡ route es a
rows_route rs es ready short same a i =
    first_row rs a i ready ∙ ap (λ fs. first_covering fs a) same ∙ first_is_route 33 es a ∙ ap (λ fs. route fs a) (all_shorter es short)
