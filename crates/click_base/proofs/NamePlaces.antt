-- Names and their indices.
use Rattle.std.proofs.Common.{◌≡◌, suc, ◌+◌, List, [], ◌∷◌, ◌++◌, map, length, Bool, true, false, not, ◌||◌, cond, refl, ap, position}
use Rattle.std.specs.List.{prefix_len, list_any}
use Rattle.std.proofs.lemmas.List.{map_push}

prefix_len_map : {A B : Type 0} (p : B → Bool) (f : A → B) (xs : List A) → prefix_len p (map f xs) ≡ prefix_len (λ x. p (f x)) xs
prefix_len_map p f [] = refl
prefix_len_map p f (x ∷ xs) = ap (λ n. cond (p (f x)) (1 + n) 0) (prefix_len_map p f xs)

length_map : {A B : Type 0} (f : A → B) (xs : List A) → length (map f xs) ≡ length xs
length_map f [] = refl
length_map f (x ∷ xs) = ap suc (length_map f xs)

pub position_map : {A B : Type 0} (p : B → Bool) (f : A → B) (xs : List A) → position p (map f xs) ≡ position (λ x. p (f x)) xs
position_map p f xs = rw (prefix_len_map (λ x. not (p x)) f xs, length_map f xs) refl

pub not_not : (b : Bool) → not (not b) ≡ b
not_not true = refl
not_not false = refl

pub any_map : {A B : Type 0} (p : B → Bool) (f : A → B) (xs : List A) → list_any p (map f xs) ≡ list_any (λ x. p (f x)) xs
any_map p f [] = refl
any_map p f (x ∷ xs) = ap (λ b. p (f x) || b) (any_map p f xs)

-- a list to which x was added if none of its items passes the test
pub added_map : {A B : Type 0} (p : B → Bool) (f : A → B) (xs : List A) (x : A) → map f (cond (list_any (λ y. p (f y)) xs) xs (xs ++ x ∷ [])) ≡ cond (list_any p (map f xs)) (map f xs) (map f xs ++ f x ∷ [])
added_map p f xs x = rw any_map (by_test (list_any (λ y. p (f y)) xs))
  where
    by_test : (b : Bool) → map f (cond b xs (xs ++ x ∷ [])) ≡ cond b (map f xs) (map f xs ++ f x ∷ [])
    by_test true = refl
    by_test false = map_push f xs x
