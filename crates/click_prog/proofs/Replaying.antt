-- Lemmas on replaying lines.
use Rattle.std.proofs.Common.{◌≡◌, ◌≢◌, ℕ, ◌+◌, ◌<◌, ◌≤◌, List, [], ◌∷◌, ◌++◌, take, drop, length, get_or, refl, sym, ap, ◌∙◌, subst, arith}
use Rattle.std.proofs.lemmas.List.{drop_more, length-take-le, take-append-drop, take_more}
use Rattle.click_router.specs.State.{RouterState}
use Rattle.click_prog.specs.Replays.{Agrees, Replays}

-- one more line that agrees
pub one_more : (first : RouterState) (lines : List (List ℕ)) (s : RouterState) (line : List ℕ) (next : RouterState)
    → Replays first lines s → Agrees s line next → Replays first (lines ++ line ∷ []) next
one_more first [] s line next same now = (next, subst (λ (t : RouterState). Agrees t line next) (sym same) now, refl)
one_more first (l ∷ lines) s line next replays now = (replays.0, replays.1, one_more replays.0 lines s line next replays.2 now)

-- a list is split at one of its lines
pub cut_at : (lines : List (List ℕ)) (k : ℕ) (line : List ℕ) → k < length lines → line ≡ get_or lines k line → lines ≡ take k lines ++ line ∷ drop (k + 1) lines
cut_at lines k line lt at =
    sym (take-append-drop k lines)
    ∙ ap (λ (x : List (List ℕ)). take k lines ++ x) (drop_more lines k line lt ∙ ap (λ (x : List ℕ). x ∷ drop (k + 1) lines) (sym at))

pub number_at : (lines : List (List ℕ)) (k : ℕ) → k < length lines → k + 1 ≡ length (take k lines) + 1
number_at lines k lt = let len : length (take k lines) ≡ k = length-take-le k lines (omega (arith, lt)) in omega (arith, len)

pub taken : (lines : List (List ℕ)) (k : ℕ) (line : List ℕ) → k < length lines → line ≡ get_or lines k line → take (k + 1) lines ≡ take k lines ++ line ∷ []
taken lines k line lt at = take_more lines k line lt ∙ ap (λ (x : List ℕ). take k lines ++ x ∷ []) (sym at)
