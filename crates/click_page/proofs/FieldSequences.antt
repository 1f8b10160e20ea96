-- A lemma on header fields that are added one after another.
use Rattle.std.proofs.Common.{◌≡◌, List, [], ◌∷◌, ◌++◌, append_assoc}

pub six-added : {X : Type 0} (f0 f1 f2 f3 f4 f5 f6 : List X) (a b c d e g : X) → f1 ≡ f0 ++ a ∷ [] → f2 ≡ f1 ++ b ∷ [] → f3 ≡ f2 ++ c ∷ [] → f4 ≡ f3 ++ d ∷ []
    → f5 ≡ f4 ++ e ∷ [] → f6 ≡ f5 ++ g ∷ [] → f6 ≡ f0 ++ a ∷ b ∷ c ∷ d ∷ e ∷ g ∷ []
six-added f0 f1 f2 f3 f4 f5 f6 a b c d e g p1 p2 p3 p4 p5 p6 = rw (p6, p5, p4, p3, p2, p1) (simp append_assoc)
