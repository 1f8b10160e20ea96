-- Ranges are added in ascending order, and a search finds the range of an address.
use Rattle.std.proofs.Common.{◌≡◌, ℕ, ◌+◌, ◌-◌, ◌<◌, ◌≤◌, List, [], ◌∷◌, ◌++◌, length, get_or, refl, sym, ap, ◌∙◌, arith, inl, inr, length-append, true, false, leb, leb-true, leb-false}
use Rattle.std.proofs.lemmas.Bool.{cases_lt}
use Rattle.std.proofs.lemmas.List.{get_or_append_left, get_or_push}
use Rattle.click_classes.specs.declared.routes.Row.{Row}
use Rattle.click_classes.specs.declared.routes.AddressRange.{AddressRange}
use Rattle.click_classes.specs.kept.Rows.{first_found}
use Rattle.click_classes.specs.kept.Ranges.{start_of, AreRanges, IsIn, HaveEntries}

-- the ranges so far reach up to the word `end`
pub record Reach (rs : List Row) (end : ℕ) (gs : List AddressRange) : Type 0 where
  pub empty : length gs ≡ 0 → end ≡ 0
  pub first : ◌<◌ 0 (length gs) → (d : AddressRange) → start_of (get_or gs 0 d) ≡ 0
  pub ascending : (i j : ℕ) (d : AddressRange) → i ≤ j → j < length gs → start_of (get_or gs i d) ≤ start_of (get_or gs j d)
  pub below : (i : ℕ) (d : AddressRange) → i < length gs → start_of (get_or gs i d) < end
  pub entries : HaveEntries rs end gs

pub reach_nothing : (rs : List Row) → Reach rs 0 []
reach_nothing rs = record {
  empty = λ _. refl;
  first = λ l d. omega (arith, l);
  ascending = λ i j d l m. omega (arith, m);
  below = λ i d l. omega (arith, l);
  entries = record { entry_is = λ i w d is l. absurd (omega (arith, l)) };
}

module _ (rs : List Row) (end next : ℕ) (gs : List AddressRange) (g : AddressRange) (so_far : Reach rs end gs) (starts : g.start ≡ end) (more : end < next)
    (has : g.entry ≡ first_found rs end) (same : (w : ℕ) → end ≤ w → w < next → first_found rs w ≡ first_found rs end) where
  longer : length (gs ++ g ∷ []) ≡ length gs + 1
  longer = length-append gs (g ∷ [])

  old : (i : ℕ) (d : AddressRange) → i < length gs → get_or (gs ++ g ∷ []) i d ≡ get_or gs i d
  old i d l = get_or_append_left gs (g ∷ []) d i l

  new : (i : ℕ) (d : AddressRange) → length gs ≡ i → get_or (gs ++ g ∷ []) i d ≡ g
  new i d e = get_or_push gs g d i e

  first_more : (d : AddressRange) → start_of (get_or (gs ++ g ∷ []) 0 d) ≡ 0
  first_more d = elim (cases_lt 0 (length gs)) [
    | inl l ↦ ap start_of (old 0 d l) ∙ so_far.first l d
    | inr l ↦ ap start_of (new 0 d (omega arith)) ∙ starts ∙ so_far.empty (omega arith)
  ]

  ascending_more : (i j : ℕ) (d : AddressRange) → i ≤ j → j < length (gs ++ g ∷ []) → start_of (get_or (gs ++ g ∷ []) i d) ≤ start_of (get_or (gs ++ g ∷ []) j d)
  ascending_more i j d l m = elim (cases_lt j (length gs)) [
    | inl n ↦ rw (old i d (omega arith), old j d n) (so_far.ascending i j d l n)
    | inr n ↦ elim (cases_lt i (length gs)) [
      | inl o ↦
          let before = so_far.below i d o in
          let last : length gs ≡ j = omega (arith, longer) in
          rw (old i d o, new j d last) (omega (arith, starts))
      | inr o ↦
          let last : length gs ≡ j = omega (arith, longer) in
          let first : length gs ≡ i = omega (arith, longer) in
          rw (new i d first, new j d last) (omega arith)
    ]
  ]

  below_more : (i : ℕ) (d : AddressRange) → i < length (gs ++ g ∷ []) → start_of (get_or (gs ++ g ∷ []) i d) < next
  below_more i d l = elim (cases_lt i (length gs)) [
    | inl m ↦ let before = so_far.below i d m in rw (old i d m) (omega arith)
    | inr m ↦
        let last : length gs ≡ i = omega (arith, longer) in
        rw (new i d last) (omega (arith, starts))
  ]

  entry_more : (i w : ℕ) (d : AddressRange) → IsIn (gs ++ g ∷ []) i w d → w < next → (get_or (gs ++ g ∷ []) i d).entry ≡ first_found rs w
  entry_more i w d is l = elim (cases_lt i (length gs)) [
    | inl m ↦
        let e = old i d m in
        let from : start_of (get_or gs i d) ≤ w = rw e at is.from in
        let before : w < end = elim (cases_lt (i + 1) (length gs)) [
          | inl n ↦
              let until = is.until (omega (arith, longer)) in
              let f : w < start_of (get_or gs (i + 1) d) = rw (old (i + 1) d n) at until in
              let o = so_far.below (i + 1) d n in
              omega arith
          | inr n ↦
              let until = is.until (omega (arith, longer)) in
              let f : w < start_of g = rw (new (i + 1) d (omega arith)) at until in
              omega (arith, starts)
        ] in
        let inside : IsIn gs i w d = record {
          there = m;
          from = from;
          until = λ n. let until = is.until (omega (arith, longer)) in rw (old (i + 1) d n) at until;
        } in
        ap (λ (x : AddressRange). x.entry) e ∙ so_far.entries.entry_is i w d inside before
    | inr m ↦
        let there = is.there in
        let last : length gs ≡ i = omega (arith, longer, there) in
        let e = new i d last in
        let from : start_of g ≤ w = rw e at is.from in
        ap (λ (x : AddressRange). x.entry) e ∙ has ∙ sym (same w (omega (arith, starts)) l)
  ]

  pub reach_more : Reach rs next (gs ++ g ∷ [])
  reach_more = record {
    empty = λ e. omega (arith, longer);
    first = λ _ d. first_more d;
    ascending = ascending_more;
    below = below_more;
    entries = record { entry_is = entry_more };
  }

pub reach_ranges : (rs : List Row) (end : ℕ) (gs : List AddressRange) → Reach rs end gs → ◌<◌ 0 (length gs) → AreRanges gs
reach_ranges rs end gs r l = record { first = r.first l; ascending = r.ascending }

-- a search that ends after the ranges that start at or before the word ends after the word's range
module _ (gs : List AddressRange) (w n : ℕ) (d : AddressRange) (some : ◌<◌ 0 (length gs)) (ranges : AreRanges gs) (bound : n ≤ length gs)
    (before : (k : ℕ) (d : AddressRange) → 0 ≤ k → k < n → leb (start_of (get_or gs k d)) w ≡ true)
    (after : (k : ℕ) (d : AddressRange) → n ≤ k → k < length gs → leb (start_of (get_or gs k d)) w ≡ false) where
  pub some_before : 1 ≤ n
  some_before = elim (cases_lt 0 n) [
    | inl l ↦ omega arith
    | inr l ↦
        let first = ranges.first d in
        let other = after 0 d (omega arith) some in
        let less = leb-false _ _ other in
        omega (arith, first, less)
  ]

  pub is_in : IsIn gs (n - 1) w d
  is_in =
      let some = some_before in
      record {
        there = omega arith;
        from = leb-true _ _ (before (n - 1) d (omega arith) (omega arith));
        until = λ l. leb-false _ _ (after (n - 1 + 1) d (omega arith) l);
      }
