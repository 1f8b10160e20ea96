-- Sorting slots does not change which nodes there are.
use Rattle.std.proofs.Common.{◌≡◌, ℕ, ◌<◌, List, length, get_or, ap, ◌∙◌, arith}
use Rattle.std.specs.List.Sorted.{IsPermutation}
use Rattle.std.proofs.lemmas.List.{get_or_default}
use Rattle.std.proofs.lemmas.List.Sorted.{Contains-permutation, All-permutation}
use Rattle.click_draw.specs.Picture.{EachAt}
use Rattle.click_draw.specs.kept.Placing.{AreSlots}
use Rattle.click_draw.specs.declared.placing.Slot.{Slot}

pub slots-sorted : (count : ℕ) (xs ys : List Slot) → length xs ≡ count → EachAt (λ (n : ℕ) (s : Slot). s.node ≡ n) xs → IsPermutation xs ys →
    length ys ≡ count → AreSlots count ys
slots-sorted count xs ys e h p f = record {
  all = f;
  within = All-permutation (λ (s : Slot). s.node < count) xs ys p (λ k d l. let n = h k d l in omega (arith, n, l, e));
  each = λ n l.
      let d : Slot = record { row = 0; preferred = 0; node = 0 } in
      let m : n < length xs = omega (arith, l, e) in
      let x : Slot = get_or xs n d in
      let w = Contains-permutation xs ys x p (n, m, get_or_default xs n x d m) in
      (w.0, w.1, λ d'. ap (λ (s : Slot). s.node) (get_or_default ys w.0 d' x w.1 ∙ w.2) ∙ h n d m);
}
