-- Swaps whose text is refused: what is published, and what the reply holds.
use Rattle.std.proofs.Common.{◌≡◌, ℕ, List, ◌++◌, Result, Ok, Err, IfOk, MatchResult, false, refl, sym, append-nil}
use Rattle.click_router.specs.One.{sends_packet}
use Rattle.click_router.specs.Swap.{IsRefused}
use Rattle.click_router.specs.declared.call.Reply.{Reply}
use Rattle.click_desk.specs.History.{asked, text_if_done}

pub list_refused : {E : Type 0} (l : List (List ℕ)) (text : List ℕ) (o : Result Reply E) → IfOk o (IsRefused text) → MatchResult o (λ r. l ≡ l ++ asked (text_if_done text r)) (λ _. l ≡ l)
list_refused l text (Ok r) h = rw h.2 (sym (append-nil l))
list_refused l text (Err e) h = refl

pub quiet_refused : {E : Type 0} (text : List ℕ) (o : Result Reply E) → IfOk o (IsRefused text) → IfOk o (λ r. sends_packet r ≡ false)
quiet_refused text (Ok r) h = rw h.2 refl
quiet_refused text (Err e) h = tt
