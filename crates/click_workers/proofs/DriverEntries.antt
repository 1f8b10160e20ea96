-- The entries of the drivers in the book.
use Rattle.std.proofs.Common.{◌≡◌, ℕ, ◌+◌, Bool, List, [], ◌∷◌, ◌++◌, length, drop, sym, ap, ◌∙◌, subst, arith}
use Rattle.std.proofs.Math.Seq.{drop-append_seam}
use Rattle.std.specs.List.{All}
use Rattle.std.proofs.lemmas.List.Elements.{All-nil, All-cons, All-head, All-tail}
use Rattle.click_router.specs.declared.call.Call.{Call}
use Rattle.click_router.specs.declared.call.Call.TheVariants as call
use Rattle.click_router.specs.declared.call.Reply.{Reply}
use Rattle.click_desk.specs.BookState.{BookState}
use Rattle.click_desk.specs.Closing.{IsEntered}
use Rattle.click_desk.specs.History.{entries}
use Rattle.click_desk.specs.SeatStates.{SeatState}
use Rattle.click_desk.specs.declared.entry.Entry.{Entry}
use Rattle.click_workers.specs.declared.session.SessionEnd.{SessionEnd}
use Rattle.click_workers.specs.Runs.{DriversRound}
use Rattle.click_workers.specs.Work.{SideBySide, Worked}

rear : {X : Type 0} (P : X → Type 0) (xs ys : List X) → All P (xs ++ ys) → All P ys
rear P [] ys h = h
rear P (x ∷ xs) ys h = rear P xs ys (All-tail P x (xs ++ ys) h)

module _ (attends : SeatState → SessionEnd → Type 0) (drives : SeatState → Bool → Type 0) (alone : (s : SeatState) (all : Bool) → drives s all → All (λ p. p.0 ≡ call.Round) s.calls) where
  rounds-of : (es : List Entry) (seats : List SeatState) (drivers : List Bool) → SideBySide drives seats drivers → All (IsEntered es) seats
      → All (λ (s : SeatState). All (λ (p : Call × Reply). p.0 ≡ call.Round) (entries es s.number)) seats
  rounds-of es [] drivers h entered = All-nil (λ (s : SeatState). All (λ (p : Call × Reply). p.0 ≡ call.Round) (entries es s.number))
  rounds-of es (s ∷ seats) [] h entered = absurd h
  rounds-of es (s ∷ seats) (all ∷ drivers) h entered =
      All-cons (λ (s : SeatState). All (λ (p : Call × Reply). p.0 ≡ call.Round) (entries es s.number)) s seats
      (subst (λ (l : List (Call × Reply)). All (λ (p : Call × Reply). p.0 ≡ call.Round) l) (sym (All-head (IsEntered es) s seats entered).0) (alone s all h.0))
      (rounds-of es seats drivers h.1 (All-tail (IsEntered es) s seats entered))

  pub drivers-round : (sessions workers : ℕ) (book : BookState) (ended : List SessionEnd) (drivers : List Bool)
      → Worked attends drives sessions (sessions + workers) book.seats ended drivers → All (IsEntered book.entries) book.seats → DriversRound sessions book
  drivers-round sessions workers book ended drivers w entered =
      let many : length w.first ≡ sessions = omega (arith, w.first_many) in
      let rest : drop sessions book.seats ≡ w.others =
      ap (λ l. drop sessions l) w.parts ∙ ap (λ k. drop k (w.first ++ w.others)) (sym many) ∙ drop-append_seam w.first w.others in
      subst (λ (l : List SeatState). All (λ (s : SeatState). All (λ (p : Call × Reply). p.0 ≡ call.Round) (entries book.entries s.number)) l) (sym rest)
      (rounds-of book.entries w.others drivers w.driven
      (rear (IsEntered book.entries) w.first w.others (subst (λ (l : List SeatState). All (IsEntered book.entries) l) w.parts entered)))
