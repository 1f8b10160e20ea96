-- Lemmas about the names of the rows while one row after another is stored.
use Rattle.std.proofs.Common.{◌≡◌, ℕ, zero, suc, ◌+◌, ◌<◌, ◌≤◌, List, [], ◌∷◌, ◌++◌, map, take, length, get_or, slice_get, refl, sym, ◌∙◌, ap, arith}
use Rattle.std.specs.Prelude.{unwrap_or}
use Rattle.std.proofs.lemmas.List.{append-nil, append_assoc, map-append, length-map, get_or-map, take_all, take_more}
use Rattle.std.proofs.lemmas.Grind.{flat_map-append}
use Rattle.click_base.specs.declared.class.Class.{Class}
use Rattle.click_handlers.specs.Names.{HandlerName, of_class, handled, names_by, name_at}

-- the rows of the first classes, and those of another class's first names
abbrev pub up_to : (Class → List (List ℕ)) → ℕ → Class → ℕ → List HandlerName
up_to names_of classes c place = names_by names_of (take classes handled) ++ map (of_class c) (take place (names_of c))

-- no name of the class has a row yet
pub no_name : (names_of : Class → List (List ℕ)) (i : ℕ) (c : Class) (rows : List HandlerName) → rows ≡ names_by names_of (take i handled) → rows ≡ up_to names_of i c 0
no_name names_of i c rows is = is ∙ sym (append-nil (names_by names_of (take i handled)))

-- the row of the next name
pub next_name : {B : Type 0} (v : B → List ℕ) (names_of : Class → List (List ℕ)) (i : ℕ) (c : Class) (xs : List B) (place : ℕ) (d : B) (name : List ℕ) (rows more : List HandlerName)
    → map v xs ≡ names_of c → place < length xs → name ≡ v (get_or xs place d) → rows ≡ up_to names_of i c place → more ≡ rows ++ of_class c name ∷ [] → more ≡ up_to names_of i c (place + 1)
next_name v names_of i c xs place d name rows more named lt at is e =
    let here : get_or (names_of c) place (v d) ≡ name = ap (λ l. get_or l place (v d)) (sym named) ∙ get_or-map v xs place d (v d) lt ∙ sym at in
    let longer : take (place + 1) (names_of c) ≡ take place (names_of c) ++ name ∷ [] =
    take_more (names_of c) place (v d) (omega (arith, lt, ap length named, length-map xs v)) ∙ ap (λ n. take place (names_of c) ++ n ∷ []) here in
    e ∙ ap (λ l. l ++ of_class c name ∷ []) is
    ∙ append_assoc (names_by names_of (take i handled)) (map (of_class c) (take place (names_of c))) (of_class c name ∷ [])
    ∙ ap (λ l. names_by names_of (take i handled) ++ l) (sym (ap (map (of_class c)) longer ∙ map-append (of_class c) (take place (names_of c)) (name ∷ [])))

-- each name of the class has a row
pub last_name : {B : Type 0} (v : B → List ℕ) (names_of : Class → List (List ℕ)) (i : ℕ) (d c : Class) (xs : List B) (place : ℕ) (rows : List HandlerName)
    → map v xs ≡ names_of c → length xs ≤ place → i < length handled → c ≡ get_or handled i d → rows ≡ up_to names_of i c place → rows ≡ names_by names_of (take (i + 1) handled)
last_name v names_of i d c xs place rows named le lt at is =
    is ∙ ap (λ l. names_by names_of (take i handled) ++ map (of_class c) l) (take_all place (names_of c) (omega (arith, le, ap length named, length-map xs v)))
    ∙ sym (ap (names_by names_of) (take_more handled i d lt ∙ ap (λ x. take i handled ++ x ∷ []) (sym at)) ∙ both_parts) where
      both_parts : names_by names_of (take i handled ++ c ∷ []) ≡ names_by names_of (take i handled) ++ map (of_class c) (names_of c)
      both_parts = flat_map-append (λ k. map (of_class k) (names_of k)) (take i handled) (c ∷ []) ∙ ap (λ l. names_by names_of (take i handled) ++ l) (append-nil (map (of_class c) (names_of c)))

-- each class has its rows
pub last_class : (names_of : Class → List (List ℕ)) (i : ℕ) (rows : List HandlerName) → length handled ≤ i → rows ≡ names_by names_of (take i handled) → rows ≡ names_by names_of handled
last_class names_of i rows le is = is ∙ ap (names_by names_of) (take_all i handled le)

-- the place of a name of a class, of an element of that class
pub place_there : {B : Type 0} (v : B → List ℕ) (names_of : Class → List (List ℕ)) (here c : Class) (xs : List B) (place : ℕ) → here ≡ c → map v xs ≡ names_of c → place < length xs
    → place < length (names_of here)
place_there v names_of here c xs place is named lt = rw is (omega (arith, lt, ap length named, length-map xs v))

-- the name at that place
pub name_there : {B : Type 0} (v : B → List ℕ) (names_of : Class → List (List ℕ)) (here c : Class) (xs : List B) (place : ℕ) (d : B) → here ≡ c → map v xs ≡ names_of c → place < length xs
    → v (get_or xs place d) ≡ name_at (names_of here) place
name_there v names_of here c xs place d is named lt =
    sym (get_or-map v xs place d (v d) lt) ∙ ap (λ l. get_or l place (v d)) named
    ∙ sym (got (names_of c) place (v d) (omega (arith, lt, ap length named, length-map xs v))) ∙ ap (λ k. name_at (names_of k) place) (sym is) where
      got : (ns : List (List ℕ)) (i : ℕ) (n : List ℕ) → i < length ns → unwrap_or (slice_get ns i) [] ≡ get_or ns i n
      got [] i n lt = absurd (omega arith)
      got (x ∷ ns) zero n lt = refl
      got (x ∷ ns) (suc i) n lt = got ns i n (omega arith)
