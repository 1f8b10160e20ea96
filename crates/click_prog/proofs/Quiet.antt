-- Lemmas on a run with links and other work: if the other work makes no Transmit, only the
-- forwarder makes any.
use Rattle.std.proofs.Common.{◌≡◌, ℕ, zero, suc, ◌+◌, Bool, List, [], ◌∷◌, ◌++◌, Result, Ok, Err, IfOk, refl, sym, subst}
use Rattle.std.specs.List.{All}
use Rattle.std.proofs.lemmas.List.Elements.{All-nil, All-push, All-tail}
use Rattle.click_desk.specs.SeatStates.{DeskName, SeatState, new_seat}
use Rattle.click_links.specs.Ends.{Attempt}
use Rattle.click_workers.specs.Beside.{BesideWork, seats_from}
use Rattle.click_workers.specs.Linked.{AreQuiet, AreQuietFrom, ForwardsBeside}
use Rattle.click_workers.specs.declared.session.SessionEnd.{SessionEnd}
use Rattle.click_workers.proofs.OtherSeats.{drop-behind}

-- a seat that has made no call; a seat that has made no Transmit
abbrev pub Idle : SeatState → Type 0
Idle s = s.calls ≡ []

abbrev pub Quiet : SeatState → Type 0
Quiet s = AreQuiet s.calls

new-idle : (desk : DeskName) (feeds : _) (n m : ℕ) → All Idle (seats_from desk feeds n m)
new-idle desk feeds n zero = All-nil Idle
new-idle desk feeds n (suc m) = All-push Idle (seats_from desk feeds n m) (new_seat desk feeds (n + m)) (new-idle desk feeds n m) refl

pub quiet-behind : {Seats Done : Type 0} (sittings : Seats → List SeatState) (many : ℕ) (does : Seats → Seats → Done → Type 0)
    → ((old new : Seats) (done : Done) → All Idle (sittings old) → does old new done → All Quiet (sittings new))
    → (devices : List (List ℕ)) (before after : List Attempt) (attends : SeatState → SessionEnd → Type 0) (drives : SeatState → Bool → Type 0) (places workers : ℕ) (seats : List SeatState) (ended : List SessionEnd)
    (drivers : List Bool) (done : Done)
    → BesideWork (λ (s : SeatState × Seats). s.0 ∷ sittings s.1) (1 + many) (ForwardsBeside devices before after does) attends drives places workers seats ended drivers done
    → AreQuietFrom (places + workers + 1) seats
quiet-behind sittings many does quiet devices before after attends drives places workers seats ended drivers done w =
    let rest = drop-behind (places + workers) seats w.served (sittings w.after.1) w.after.0 w.parts w.worked.many in
    let idle = subst (λ (l : List SeatState). All Idle l) (sym w.fresh.2) (new-idle w.fresh.0 w.fresh.1 (places + workers) (1 + many)) in
    subst (λ (l : List SeatState). All Quiet l) (sym rest) (quiet w.before.1 w.after.1 done (All-tail Idle w.before.0 (sittings w.before.1) idle) w.does.1)

-- four facts about an Ok result give a fifth
pub all-ok : {X E : Type 0} (H W S L G : X → Type 0) → ((x : X) → H x → W x → S x → L x → G x) → (r : Result X E) → IfOk r H → IfOk r W → IfOk r S → IfOk r L → IfOk r G
all-ok H W S L G f (Ok x) h w s l = f x h w s l
all-ok H W S L G f (Err e) h w s l = tt
