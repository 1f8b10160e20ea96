-- Lemmas on the words of a line.
use Rattle.std.proofs.Common.{◌≡◌, ℕ, ◌-◌, ◌<◌, List, [], ◌∷◌, Bool, true, false, not, length, get_or, take, drop, refl, sym, ap, ◌∙◌, inl, inr, one-add, arith}
use Rattle.std.specs.List.{prefix_len, suffix_len, before_last, list_any}
use Rattle.std.proofs.lemmas.List.Folds.{list_any_at}
use Rattle.std.proofs.lemmas.Bool.{cases_Bool, not_from_false}
use Rattle.std.proofs.lemmas.List.Sums.{suffix_len_is}
use Rattle.click_base.specs.Blanks.{is_blank}
use Rattle.click_base.specs.Dotted.{is_dot}
use Rattle.click_control.specs.Commands.{from_blank}

-- the bytes that are not blanks
abbrev pub no_blank : ℕ → Bool
no_blank b = not (is_blank b)

pub from_blank-drop : (bs : List ℕ) → from_blank bs ≡ drop (prefix_len no_blank bs) bs
from_blank-drop [] = refl
from_blank-drop (b ∷ bs) =
    elim (cases_Bool (is_blank b)) [
      | inl e ↦ rw e refl
      | inr e ↦ rw (e, one-add) (from_blank-drop bs)
    ]

-- ---- the element in a handler's name

pub before_last-none : (name : List ℕ) → list_any is_dot name ≡ false → [] ≡ before_last is_dot name
before_last-none name none =
    let p : ℕ → Bool = λ b. not (is_dot b) in
    let rest : suffix_len p name ≡ length name - 0 =
    suffix_len_is p name 0 0 (omega arith) (λ j low high. not_from_false (is_dot (get_or name j 0)) (no_dot j high)) (λ q. absurd (omega arith)) in
    let place : length name - suffix_len p name - 1 ≡ 0 = omega arith in
    sym (ap (λ i. take i name) place)
  where
    no_dot : (j : ℕ) → j < length name → is_dot (get_or name j 0) ≡ false
    no_dot j high = elim (cases_Bool (is_dot (get_or name j 0))) [
      | inl t ↦ let some = list_any_at is_dot name j 0 high t in let bad : true ≡ false = sym some ∙ none in cc
      | inr f ↦ f
    ]
