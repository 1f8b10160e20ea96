-- Laws of the room of a history.
use Rattle.std.proofs.Common.{◌≡◌, ℕ, Option, Some, None, ap, sym, subst, arith}
use Rattle.click_desk.specs.Bounds.{IsWithin, IsFull}

pub within_none : (room : Option ℕ) → IsWithin room 0
within_none None = tt
within_none (Some room) = omega arith

-- A history with exactly as many entries as it has room for is full.
pub is_full : (room : Option ℕ) (n : ℕ) → room ≡ Some n → IsFull room n
is_full room n is = subst (λ (r : Option ℕ). IsFull r n) (sym is) (omega arith)

pub full_is : (room : Option ℕ) (n : ℕ) → IsWithin room n → IsFull room n → room ≡ Some n
full_is None n within full = absurd full
full_is (Some room) n within full = let same : room ≡ n = omega arith in ap (λ r. Some r) same
