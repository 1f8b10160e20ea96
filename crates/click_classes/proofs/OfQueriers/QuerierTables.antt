-- The table of an ARPQuerier after a change: the packets that wait in it, and that it stays sound.
use Rattle.std.proofs.Common.{◌≡◌, ◌≢◌, ℕ, zero, suc, ◌+◌, ◌<◌, List, [], ◌∷◌, ◌++◌, length, get_or, slice_set, slice_get, Bool, true, false, not, cond, nat_lt, Option, Some, None, refl, sym, ap, ◌∙◌, subst, arith, inl, inr, filter}
use Rattle.std.specs.Prelude.{filter_map}
use Rattle.std.specs.List.{AllPairs, Contains, count_by, sum_by, cons_option, position_or_len}
use Rattle.std.specs.Str.{bytes_eq}
use Rattle.std.proofs.lemmas.Bool.{ltb-false, cases_eq}
use Rattle.std.proofs.lemmas.List.{get_or-set_same, get_or-set_other, length-set}
use Rattle.std.proofs.lemmas.List.Elements.{Contains-append_right}
use Rattle.std.proofs.lemmas.List.Filters.{sum_by-filter_both}
use Rattle.std.proofs.lemmas.List.Quantifiers.{all_pairs_push}
use Rattle.std.proofs.lemmas.List.Sums.{sum_by-cons, sum_by-set, sum_by_push, fails_before_first}
use Rattle.std.proofs.lemmas.Option.{slice_get_within, get_or_from_slice_get, slice_get-get_or}
use Rattle.std.proofs.lemmas.Slice.Eq.{bytes_eq-Decides}
use Rattle.click_packet.specs.Packet.{Packet}
use Rattle.click_classes.specs.Neighbours.{Neighbour, place_of}

-- the packet that waits, if there is one
abbrev pub held : Option Packet → List Packet
held None = []
held (Some p) = p ∷ []

abbrev pub waiting : List Neighbour → List Packet
waiting ns = filter_map (λ (n : Neighbour). n.waiting) ns

-- the number of waiting packets that pass a test
module _ (test : Packet → Bool) where
  abbrev pub weight : Neighbour → ℕ
  weight n = count_by test (held n.waiting)

  held-more : (o : Option Packet) (ps : List Packet) → count_by test (cons_option o ps) ≡ count_by test (held o) + count_by test ps
  held-more None ps = omega arith
  held-more (Some p) ps = omega (arith, sum_by-cons (λ x. cond (test x) 1 0) p ps)

  pub waiting-weights : (ns : List Neighbour) → count_by test (waiting ns) ≡ sum_by weight ns
  waiting-weights [] = refl
  waiting-weights (n ∷ ns) =
      held-more n.waiting (waiting ns) ∙ ap (λ k. weight n + k) (waiting-weights ns) ∙ sym (sum_by-cons weight n ns)

  pub waiting-set : (ns : List Neighbour) (place : ℕ) (n m : Neighbour) → slice_get ns place ≡ Some n
      → count_by test (waiting (slice_set ns place m)) + count_by test (held n.waiting) ≡ count_by test (waiting ns) + count_by test (held m.waiting)
  waiting-set ns place n m there =
      let set = sum_by-set weight ns place m n (slice_get_within ns place n there) in
      let same = ap weight (get_or_from_slice_get ns place n n there) in
      omega (arith, waiting-weights (slice_set ns place m), waiting-weights ns, set, same)

  pub waiting-added : (ns : List Neighbour) (m : Neighbour) → count_by test (waiting (ns ++ m ∷ [])) ≡ count_by test (waiting ns) + count_by test (held m.waiting)
  waiting-added ns m = omega (arith, waiting-weights (ns ++ m ∷ []), sum_by_push weight ns m, waiting-weights ns)

  pub waiting-filtered : (keep : Neighbour → Bool) (ns : List Neighbour)
      → count_by test (waiting (filter (λ n. not (keep n)) ns)) + count_by test (waiting (filter keep ns)) ≡ count_by test (waiting ns)
  waiting-filtered keep ns =
      let both = sum_by-filter_both keep (λ n. not (keep n)) (λ n. refl) weight ns in
      omega (arith, waiting-weights (filter keep ns), waiting-weights (filter (λ n. not (keep n)) ns), waiting-weights ns, both)

-- ---- membership

held_first : (o : Option Packet) (ps : List Packet) → cons_option o ps ≡ held o ++ ps
held_first None ps = refl
held_first (Some p) ps = refl

pub held-there : (ns : List Neighbour) (k : ℕ) (n : Neighbour) (p : Packet) → slice_get ns k ≡ Some n → n.waiting ≡ Some p → Contains (waiting ns) p
held-there [] k n p there is = absurd (cc there)
held-there (m ∷ ns) zero n p there is =
    let same : m ≡ n = cc in
    let w : m.waiting ≡ Some p = ap (λ (x : Neighbour). x.waiting) same ∙ is in
    rw w (0, omega arith, refl)
held-there (m ∷ ns) (suc k) n p there is =
    subst (λ ps. Contains ps p) (sym (held_first m.waiting (waiting ns))) (Contains-append_right (held m.waiting) (waiting ns) p (held-there ns k n p there is))

pub set-there : (ns : List Neighbour) (place : ℕ) (n m : Neighbour) → slice_get ns place ≡ Some n → slice_get (slice_set ns place m) place ≡ Some m
set-there ns place n m there =
    let lt = slice_get_within ns place n there in
    slice_get-get_or (slice_set ns place m) place m (subst (λ k. place < k) (sym (length-set ns place m)) lt) ∙ ap Some (get_or-set_same ns place m m lt)

pub slice_get-Contains : (ns : List Neighbour) (k : ℕ) (n : Neighbour) → slice_get ns k ≡ Some n → Contains ns n
slice_get-Contains ns k n there = (k, slice_get_within ns k n there, get_or_from_slice_get ns k n n there)

-- ---- addresses

abbrev pub Apart : Neighbour → Neighbour → Type 0
Apart m n = m.address ≢ n.address

module _ (ns : List Neighbour) (place : ℕ) (n m : Neighbour) (there : slice_get ns place ≡ Some n) (same : m.address ≡ n.address) where
  address-set : (k : ℕ) (d : Neighbour) → (get_or (slice_set ns place m) k d).address ≡ (get_or ns k d).address
  address-set k d = elim (cases_eq k place) [
    | inl at ↦
        rw at (
        ap (λ (x : Neighbour). x.address) (get_or-set_same ns place m d (slice_get_within ns place n there)) ∙ same
        ∙ ap (λ (x : Neighbour). x.address) (sym (get_or_from_slice_get ns place n d there))
        )
    | inr other ↦ ap (λ (x : Neighbour). x.address) (get_or-set_other ns place k m d other)
  ]

  pub apart-set : AllPairs Apart ns → AllPairs Apart (slice_set ns place m)
  apart-set h i j d lt within = λ e. h i j d lt (subst (λ k. j < k) (length-set ns place m) within) (sym (address-set i d) ∙ e ∙ address-set j d)

pub not-there : (ns : List Neighbour) (address : List ℕ) → place_of ns address ≡ None → (k : ℕ) (d : Neighbour) → k < length ns → (get_or ns k d).address ≢ address
not-there ns address none k d lt = λ same.
    let test = λ (n : Neighbour). bytes_eq n.address address in
    let past : nat_lt (position_or_len test ns) (length ns) ≡ false = at-none (nat_lt (position_or_len test ns) (length ns)) (position_or_len test ns) none in
    let fails = fails_before_first test ns k d (omega (arith, ltb-false _ _ past)) in
    absurd (let yes = (bytes_eq-Decides (get_or ns k d).address address).1 same in cc (sym fails ∙ yes))
  where
    at-none : (b : Bool) (n : ℕ) → cond b (Some n) None ≡ None → b ≡ false
    at-none true n e = absurd (cc e)
    at-none false n e = refl

pub apart-added : (ns : List Neighbour) (m : Neighbour) → place_of ns m.address ≡ None → AllPairs Apart ns → AllPairs Apart (ns ++ m ∷ [])
apart-added ns m none h = all_pairs_push Apart ns m h (not-there ns m.address none)
