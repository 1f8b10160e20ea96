-- Lemmas about elements that take over one after another.
use Rattle.std.proofs.Common.{◌≡◌, ℕ, zero, suc, ◌<◌, ◌≤◌, List, [], ◌∷◌, ◌++◌, Bool, true, false, not, eqb, eqb-true, length, take, drop, get_or, position, slice_get, slice_set, Option, Some, None, refl, sym, ap, ◌∙◌, arith}
use Rattle.std.specs.Prelude.{slice_index_or, option_and_then}
use Rattle.std.specs.Option.{option_eq}
use Rattle.std.specs.List.{All}
use Rattle.std.specs.Str.{bytes_eq}
use Rattle.std.proofs.lemmas.Bool.{false≢true}
use Rattle.std.proofs.lemmas.List.{set-get_or}
use Rattle.std.proofs.lemmas.List.Quantifiers.{position-Some}
use Rattle.std.proofs.lemmas.Slice.Eq.{bytes_eq-Decides}
use Rattle.click_classes.specs.Fitting.{FitsPorts}
use Rattle.click_classes.specs.Queues.{IsSound}
use Rattle.click_classes.proofs.OfStates.StateTakeOver.{keeps_ports, stays_sound}
use Rattle.click_engine.specs.declared.run_state.Element.{Element}
use Rattle.click_engine.specs.Plant.{Plant}
use Rattle.click_engine.specs.TakeOver.{named, with_taken_over, each_taken}
use Rattle.click_engine.specs.RunState.{blank}

-- if no element is left, nothing is taken over
none_taken : (old : Plant) (names : List (List ℕ)) → each_taken old names [] ≡ []
none_taken old [] = refl
none_taken old (n ∷ ns) = refl

-- the elements, of which those from an index on have taken over
abbrev pub taken_from : Plant → List (List ℕ) → List Element → ℕ → List Element
taken_from old names es at = take at es ++ each_taken old (drop at names) (drop at es)

next_taken : (old : Plant) (names : List (List ℕ)) (es : List Element) (at : ℕ) → at < length names
    → slice_set (taken_from old names es (suc at)) at (with_taken_over (slice_index_or (taken_from old names es (suc at)) at blank) (named old (slice_index_or names at [])))
    ≡ taken_from old names es at
next_taken old [] es at inside = absurd (omega (arith, inside))
next_taken old (n ∷ ns) [] zero inside =
    ap (λ l. slice_set l zero (with_taken_over (slice_index_or l zero blank) (named old n))) (none_taken old ns)
next_taken old (n ∷ ns) [] (suc at) inside =
    ap (λ l. slice_set l (suc at) (with_taken_over (slice_index_or l (suc at) blank) (named old (slice_index_or ns at [])))) (none_taken old (drop (suc at) ns)) ∙ sym (none_taken old (drop at ns))
next_taken old (n ∷ ns) (e ∷ es) zero inside = refl
next_taken old (n ∷ ns) (e ∷ es) (suc at) inside = ap (λ r. e ∷ r) (next_taken old ns es at (omega (arith, inside)))

-- one more element takes over, if its name finds in the old plant what it found at first
pub taken_next : (old now : Plant) (names : List (List ℕ)) (es : List Element) (from at : ℕ) → from ≡ suc at → at < length names
    → named now (slice_index_or names at []) ≡ named old (slice_index_or names at [])
    → slice_set (taken_from old names es from) at (with_taken_over (slice_index_or (taken_from old names es from) at blank) (named now (slice_index_or names at [])))
    ≡ taken_from old names es at
taken_next old now names es from at is inside same =
    ap (λ o. slice_set (taken_from old names es from) at (with_taken_over (slice_index_or (taken_from old names es from) at blank) o)) same
    ∙ ap (λ k. slice_set (taken_from old names es k) at (with_taken_over (slice_index_or (taken_from old names es k) at blank) (named old (slice_index_or names at [])))) is
    ∙ next_taken old names es at inside

-- a change of one element leaves the elements with other names unchanged
set-elsewhere : (es : List Element) (i k : ℕ) (e : Element) → (k ≡ i → ⊥) → slice_get (slice_set es i e) k ≡ slice_get es k
set-elsewhere [] i k e h = refl
set-elsewhere (x ∷ es) zero zero e h = absurd (h refl)
set-elsewhere (x ∷ es) zero (suc k) e h = refl
set-elsewhere (x ∷ es) (suc i) zero e h = refl
set-elsewhere (x ∷ es) (suc i) (suc k) e h = set-elsewhere es i k e (λ same. h (ap suc same))

pub finds_others : (names : List (List ℕ)) (es : List Element) (place : ℕ) (e : Element) (name other : List ℕ) → position (bytes_eq name) names ≡ Some place → (other ≡ name → ⊥)
    → option_and_then (slice_get (slice_set es place e)) (position (bytes_eq other) names) ≡ option_and_then (slice_get es) (position (bytes_eq other) names)
finds_others names es place e name other h apart = go (position (bytes_eq other) names) refl
  where
    go : (o : Option ℕ) → position (bytes_eq other) names ≡ o → option_and_then (slice_get (slice_set es place e)) o ≡ option_and_then (slice_get es) o
    go None k = refl
    go (Some p) k = set-elsewhere es place p e λ same.
        let mine : other ≡ get_or names p [] = (bytes_eq-Decides other (get_or names p [])).0 (position-Some (bytes_eq other) names p [] k).1 in
        let its : name ≡ get_or names place [] = (bytes_eq-Decides name (get_or names place [])).0 (position-Some (bytes_eq name) names place [] h).1 in
        apart (mine ∙ ap (λ i. get_or names i []) same ∙ sym its)

-- no index before the first one with a name has that name
pub stands_first : (names : List (List ℕ)) (name : List ℕ) (at j : ℕ) → position (bytes_eq name) names ≡ Some at → j < at → slice_index_or names j [] ≡ name → ⊥
stands_first names name at j h before same =
    false≢true (sym ((position-Some (bytes_eq name) names at [] h).2 j before) ∙ (bytes_eq-Decides name (slice_index_or names j [])).1 (sym same))

-- writing an element back changes nothing
pub set-back : (es : List Element) (place : ℕ) (b e : Element) → e ≡ b → b ≡ get_or es place b → slice_set es place e ≡ es
set-back es place b e same here = ap (λ x. slice_set es place x) (same ∙ here) ∙ set-get_or es place b

-- writing past the end changes nothing
pub set-past : (es : List Element) (at : ℕ) (e : Element) → length es ≤ at → slice_set es at e ≡ es
set-past [] at e h = refl
set-past (x ∷ es) zero e h = absurd (omega (arith, h))
set-past (x ∷ es) (suc at) e h = ap (λ r. x ∷ r) (set-past es at e (omega (arith, h)))

-- the index is the one that was found, if the test for another one is false
pub is_first : (o : Option ℕ) (at : ℕ) → not (option_eq eqb o (Some at)) ≡ false → o ≡ Some at
is_first None at h = absurd (false≢true (sym h))
is_first (Some p) at h = ap Some (eqb-true p at (turned (eqb p at) h))
  where
    turned : (b : Bool) → not b ≡ false → b ≡ true
    turned true k = refl
    turned false k = sym k

-- The elements before an index still find what they found. Either the old element at the place is
-- unchanged, or no earlier index has its name.
pub finds_before : (names : List (List ℕ)) (at : ℕ) (old_names : List (List ℕ)) (es : List Element) (place : ℕ) (b e : Element) (name : List ℕ) (o : Option ℕ)
    → o ≡ position (bytes_eq name) names → Some place ≡ position (bytes_eq name) old_names → b ≡ get_or es place b
    → (not (option_eq eqb o (Some at)) ≡ true → e ≡ b) → (j : ℕ) → j < at
    → option_and_then (slice_get (slice_set es place e)) (position (bytes_eq (slice_index_or names j [])) old_names)
    ≡ option_and_then (slice_get es) (position (bytes_eq (slice_index_or names j [])) old_names)
finds_before names at old_names es place b e name o is found here kept j before = go (not (option_eq eqb o (Some at))) refl
  where
    n : List ℕ
    n = slice_index_or names j []

    go : (t : Bool) → not (option_eq eqb o (Some at)) ≡ t
        → option_and_then (slice_get (slice_set es place e)) (position (bytes_eq n) old_names) ≡ option_and_then (slice_get es) (position (bytes_eq n) old_names)
    go true k = ap (λ l. option_and_then (slice_get l) (position (bytes_eq n) old_names)) (set-back es place b e (kept k) here)
    go false k = finds_others old_names es place e name n (sym found) (stands_first names name at j (sym is ∙ is_first o at k) before)

-- each element takes over from the old element with its name
pub each_by_name : (old : Plant) (names : List (List ℕ)) (es : List Element) (at : ℕ) (name : List ℕ) (e : Element) → slice_get names at ≡ Some name → slice_get es at ≡ Some e
    → slice_get (each_taken old names es) at ≡ Some (with_taken_over e (named old name))
each_by_name old [] es at name e h k = absurd (let x = h in cc)
each_by_name old (n ∷ ns) [] at name e h k = absurd (let x = k in cc)
each_by_name old (n ∷ ns) (d ∷ ds) zero name e h k =
    let same : n ≡ name = let x = h in cc in let here : d ≡ e = let x = k in cc in
    ap (λ x. Some (with_taken_over x (named old n))) here ∙ ap (λ m. Some (with_taken_over e (named old m))) same
each_by_name old (n ∷ ns) (d ∷ ds) (suc at) name e h k = each_by_name old ns ds at name e h k

-- elements stay sound and fitting
after-sound : (e : Element) (o : Option Element) → IsSound e.state → IsSound (with_taken_over e o).state
after-sound e None h = h
after-sound e (Some before) h = stays_sound e.outputs e.state before.state h

after-fitting : (e : Element) (o : Option Element) → FitsPorts e.inputs e.outputs e.state → FitsPorts (with_taken_over e o).inputs (with_taken_over e o).outputs (with_taken_over e o).state
after-fitting e None h = h
after-fitting e (Some before) h = keeps_ports e.inputs e.outputs e.state before.state h

pub all_sound : (old : Plant) (names : List (List ℕ)) (es : List Element) → All (λ (e : Element). IsSound e.state) es → All (λ (e : Element). IsSound e.state) (each_taken old names es)
all_sound old [] es h k d inside = h k d inside
all_sound old (n ∷ ns) [] h k d inside = h k d inside
all_sound old (n ∷ ns) (e ∷ es) h zero d inside = after-sound e (named old n) (h 0 d (omega arith))
all_sound old (n ∷ ns) (e ∷ es) h (suc k) d inside = all_sound old ns es (λ j x l. h (suc j) x (omega (arith, l))) k d (omega (arith, inside))

pub all_fitting : (old : Plant) (names : List (List ℕ)) (es : List Element) → All (λ (e : Element). FitsPorts e.inputs e.outputs e.state) es
    → All (λ (e : Element). FitsPorts e.inputs e.outputs e.state) (each_taken old names es)
all_fitting old [] es h k d inside = h k d inside
all_fitting old (n ∷ ns) [] h k d inside = h k d inside
all_fitting old (n ∷ ns) (e ∷ es) h zero d inside = after-fitting e (named old n) (h 0 d (omega arith))
all_fitting old (n ∷ ns) (e ∷ es) h (suc k) d inside = all_fitting old ns es (λ j x l. h (suc j) x (omega (arith, l))) k d (omega (arith, inside))
