-- Addresses that are written with dots read back.
use Rattle.std.proofs.Common.{◌≡◌, ℕ, ◌<◌, List, [], ◌∷◌, length, Ok, arith}
use Rattle.std.specs.List.{All}
use Rattle.click_classes.specs.Values.{address}
use Rattle.click_classes.proofs.OfArguments.ValueTexts.{address-read}
use Rattle.click_handlers.specs.Reads.{dotted}

pub dotted-read : (a : List ℕ) → length a ≡ 4 → All (λ b. b < 256) a → address (dotted a) ≡ Ok a
dotted-read [] e h = absurd (omega (arith, e))
dotted-read (a ∷ []) e h = absurd (omega (arith, e))
dotted-read (a ∷ b ∷ []) e h = absurd (omega (arith, e))
dotted-read (a ∷ b ∷ c ∷ []) e h = absurd (omega (arith, e))
dotted-read (a ∷ b ∷ c ∷ d ∷ []) e h =
    address-read a b c d (h 0 0 (omega arith)) (h 1 0 (omega arith)) (h 2 0 (omega arith)) (h 3 0 (omega arith))
dotted-read (a ∷ b ∷ c ∷ d ∷ x ∷ xs) e h = absurd (omega (arith, e))
