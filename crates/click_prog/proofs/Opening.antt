-- Lemmas on the lists of what was opened for each link, one after another.
use Rattle.std.proofs.Common.{◌≡◌, ◌<◌, ◌+◌, ◌∙◌, ℕ, List, [], ◌∷◌, ◌++◌, length, get_or, map, take, refl, sym, ap}
use Rattle.std.proofs.lemmas.List.{map-append, map_more}

map-seen : {X Y Z : Type 0} (g : X → Y) (f : Y → Z) (xs : List X) → map (λ x. f (g x)) xs ≡ map f (map g xs)
map-seen g f [] = refl
map-seen g f (x ∷ xs) = ap (λ l. f (g x) ∷ l) (map-seen g f xs)

-- one more item
pub opened-more : {Y W : Type 0} (h : W → Y) (old new : List Y) (y : Y) (ws : List W) (k : ℕ) (d : W) → k < length ws → new ≡ old ++ y ∷ [] → old ≡ map h (take k ws) → y ≡ h (get_or ws k d)
    → new ≡ map h (take (k + 1) ws)
opened-more h old new y ws k d below grown so_far is =
    grown ∙ ap (λ l. l ++ y ∷ []) so_far ∙ ap (λ z. map h (take k ws) ++ z ∷ []) is ∙ sym (map_more h ws k d below)

-- one more item, if only a function of each item is known
pub seen-more : {X Y Z W : Type 0} (g : X → Y) (f : Y → Z) (h : W → Z) (old new : List X) (y : Y) (ws : List W) (k : ℕ) (d : W) → k < length ws → map g new ≡ map g old ++ y ∷ []
    → map (λ x. f (g x)) old ≡ map h (take k ws) → f y ≡ h (get_or ws k d) → map (λ x. f (g x)) new ≡ map h (take (k + 1) ws)
seen-more g f h old new y ws k d below grown so_far is =
    opened-more h (map (λ x. f (g x)) old) (map (λ x. f (g x)) new) (f y) ws k d below
    (map-seen g f new ∙ ap (map f) grown ∙ map-append f (map g old) (y ∷ []) ∙ ap (λ l. l ++ f y ∷ []) (sym (map-seen g f old)))
    so_far is
