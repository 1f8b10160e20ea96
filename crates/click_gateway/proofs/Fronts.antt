-- Addresses that are written byte by byte.
use Rattle.std.proofs.Common.{◌≡◌, ℕ, List, [], ◌∷◌, ◌++◌, length, get_or, refl, ◌∙◌, arith}
use Rattle.std.proofs.lemmas.List.{append-nil}

pub six-front : (xs ys : List ℕ) → length xs ≡ 6
    → get_or xs 0 0 ∷ get_or xs 1 0 ∷ get_or xs 2 0 ∷ get_or xs 3 0 ∷ get_or xs 4 0 ∷ get_or xs 5 0 ∷ ys ≡ xs ++ ys
six-front (a ∷ b ∷ c ∷ d ∷ e ∷ f ∷ []) ys h = refl
six-front [] ys h = absurd (omega arith)
six-front (a ∷ []) ys h = absurd (omega arith)
six-front (a ∷ b ∷ []) ys h = absurd (omega arith)
six-front (a ∷ b ∷ c ∷ []) ys h = absurd (omega arith)
six-front (a ∷ b ∷ c ∷ d ∷ []) ys h = absurd (omega arith)
six-front (a ∷ b ∷ c ∷ d ∷ e ∷ []) ys h = absurd (omega arith)
six-front (a ∷ b ∷ c ∷ d ∷ e ∷ f ∷ g ∷ xs) ys h = absurd (omega arith)

pub four-front : (xs ys : List ℕ) → length xs ≡ 4 → get_or xs 0 0 ∷ get_or xs 1 0 ∷ get_or xs 2 0 ∷ get_or xs 3 0 ∷ ys ≡ xs ++ ys
four-front (a ∷ b ∷ c ∷ d ∷ []) ys h = refl
four-front [] ys h = absurd (omega arith)
four-front (a ∷ []) ys h = absurd (omega arith)
four-front (a ∷ b ∷ []) ys h = absurd (omega arith)
four-front (a ∷ b ∷ c ∷ []) ys h = absurd (omega arith)
four-front (a ∷ b ∷ c ∷ d ∷ e ∷ xs) ys h = absurd (omega arith)

pub four-bytes : (xs : List ℕ) → length xs ≡ 4 → get_or xs 0 0 ∷ get_or xs 1 0 ∷ get_or xs 2 0 ∷ get_or xs 3 0 ∷ [] ≡ xs
four-bytes (a ∷ b ∷ c ∷ d ∷ []) h = refl
four-bytes [] h = absurd (omega arith)
four-bytes (a ∷ []) h = absurd (omega arith)
four-bytes (a ∷ b ∷ []) h = absurd (omega arith)
four-bytes (a ∷ b ∷ c ∷ []) h = absurd (omega arith)
four-bytes (a ∷ b ∷ c ∷ d ∷ e ∷ xs) h = absurd (omega arith)

pub six-bytes : (xs : List ℕ) → length xs ≡ 6
    → get_or xs 0 0 ∷ get_or xs 1 0 ∷ get_or xs 2 0 ∷ get_or xs 3 0 ∷ get_or xs 4 0 ∷ get_or xs 5 0 ∷ [] ≡ xs
six-bytes xs h = six-front xs [] h ∙ append-nil xs
