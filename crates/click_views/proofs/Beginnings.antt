-- Lemmas about prefixes and about the last item of a list.
use Rattle.std.proofs.Common.{◌≡◌, ℕ, List, [], ◌∷◌, ◌++◌, refl, ap, sym, ◌∙◌, append_assoc, Some, None}
use Rattle.click_views.specs.Log.{LogEntry, installs, IsClosed}
use Rattle.click_views.specs.Showing.{BeginsWith, IsLast}
use Rattle.click_views.proofs.Prefixes.{installs_more, installs_ended}

pub beginnings : {T : Type 0} (first next last : List T) → BeginsWith next first → BeginsWith last next → BeginsWith last first
beginnings first next last p q = (p.0 ++ q.0, q.1 ∙ ap (λ l. l ++ q.0) p.1 ∙ append_assoc first p.0 q.0)

no_end : {T : Type 0} (xs : List T) (y : T) → xs ++ y ∷ [] ≡ [] → ⊥
no_end [] y e = cc
no_end (x ∷ xs) y e = cc

same_end : {T : Type 0} (xs ys : List T) (x y : T) → xs ++ x ∷ [] ≡ ys ++ y ∷ [] → x ≡ y
same_end [] [] x y e = cc
same_end [] (b ∷ ys) x y e = let rest : ys ++ y ∷ [] ≡ [] = cc in absurd (no_end ys y rest)
same_end (a ∷ xs) [] x y e = let rest : xs ++ x ∷ [] ≡ [] = cc in absurd (no_end xs x rest)
same_end (a ∷ xs) (b ∷ ys) x y e = let rest : xs ++ x ∷ [] ≡ ys ++ y ∷ [] = cc in same_end xs ys x y rest

pub one_last : {T : Type 0} (list : List T) (x y : T) → IsLast list x → IsLast list y → x ≡ y
one_last list x y p q = same_end p.0 q.0 x y (sym p.1 ∙ q.1)

pub more : {T : Type 0} (log : List (LogEntry T)) (key : ℕ) (x : T) → installs (log ++ (key, Some x) ∷ []) ≡ installs log ++ x ∷ []
more log key x = installs_more log key x

pub closed : {T : Type 0} (log : List (LogEntry T)) → IsClosed log → (before : List (LogEntry T)) × (installs log ≡ installs before)
closed log c = (c.0, ap installs c.2 ∙ installs_ended c.0 c.1)
