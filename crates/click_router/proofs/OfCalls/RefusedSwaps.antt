-- Swaps whose text is refused.
use Rattle.std.proofs.Common.{◌≡◌, ℕ, List, Result, Ok, Err, IfOk, MatchResult, refl}
use Rattle.click_router.specs.State.{RouterState}
use Rattle.click_router.specs.Swap.{Swaps, IsRefused, refused}
use Rattle.click_router.specs.declared.call.Reply.{Reply}

-- A swap that returns the reply which refuses its text, or out of memory, leaves the router
-- unchanged.
pub swap_refused : {E : Type 0} (s : RouterState) (text : List ℕ) (o : Result Reply E) → IfOk o (IsRefused text) → MatchResult o (λ r. Swaps s text s r) (λ _. s ≡ s)
swap_refused s text (Ok r) h = rw h.2 (refused h.0 h.1)
swap_refused s text (Err e) h = refl
