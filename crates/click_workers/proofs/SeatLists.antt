-- How the list of a seat grows in a session.
use Rattle.std.proofs.Common.{◌≡◌, ℕ, Bool, List, [], ◌∷◌, ◌++◌, length, Option, Some, None, Result, Ok, Err, refl, sym, ap, ◌∙◌, append_assoc, append-nil, length-append, arith}
use Rattle.click_router.specs.declared.call.Call.{Call}
use Rattle.click_desk.specs.SeatStates.{SeatState}
use Rattle.click_control.specs.declared.command.Command.{Command}
use Rattle.click_control.specs.declared.command.Answer.{Answer}
use Rattle.click_control.specs.declared.serving.Ended.{Ended}
use Rattle.click_control.specs.declared.serving.ServeFault.{ServeFault}
use Rattle.click_streams.specs.Peers.{Input, Output}
use Rattle.click_control.specs.Serving.{call_of, Answered, Asked, nothing, then_one, Course, ServesSo}
use Rattle.click_workers.specs.Seats.{SameSeat, SeatAsks, made_one, made, SeatServes}

made-push : (readonly : Bool) (cs : List Command) (answers : List Answer) (c : Command) (a : Answer) → length cs ≡ length answers
    → made readonly (cs ++ c ∷ []) (answers ++ a ∷ []) ≡ made readonly cs answers ++ made_one (call_of readonly c) a
made-push readonly [] [] c a e = append-nil (made_one (call_of readonly c) a)
made-push readonly [] (b ∷ answers) c a e = absurd (omega arith)
made-push readonly (d ∷ cs) [] c a e = absurd (omega arith)
made-push readonly (d ∷ cs) (b ∷ answers) c a e =
    ap (λ t. made_one (call_of readonly d) b ++ t) (made-push readonly cs answers c a (omega arith))
    ∙ sym (append_assoc (made_one (call_of readonly d) b) (made readonly cs answers) (made_one (call_of readonly c) a))

asked-length : (readonly : Bool) (p : SeatState) (cs : List Command) (answers : List Answer) (q : SeatState) → Asked SeatAsks readonly p cs answers q → length cs ≡ length answers
asked-length readonly _ _ _ _ (nothing p) = refl
asked-length readonly _ _ _ _ (then_one p mid q cs answers c a before step) =
    omega (arith, asked-length readonly p cs answers mid before, length-append cs (c ∷ []), length-append answers (a ∷ []))

answered-grows : (p q : SeatState) (call : Option Call) (a : Answer) → Answered SeatAsks p call a q → SameSeat p q × (q.calls ≡ p.calls ++ made_one call a)
answered-grows p q None a h = ((ap (λ s. s.desk) h.1, ap (λ s. s.number) h.1, ap (λ s. s.feeds) h.1), ap (λ s. s.calls) h.1 ∙ sym (append-nil p.calls))
answered-grows p q (Some c) a (Ok r, h, e) = (h.0, h.1.calls ∙ ap (λ b. p.calls ++ made_one (Some c) b) (sym e))
answered-grows p q (Some c) a (Err f, h, e) = (h.0, h.1.calls ∙ sym (append-nil p.calls) ∙ ap (λ b. p.calls ++ made_one (Some c) b) (sym e))

-- The seat has the same number, desk and feeds, and its list grows by the calls that did not fail.
pub asked-grows : (readonly : Bool) (p : SeatState) (cs : List Command) (answers : List Answer) (q : SeatState) → Asked SeatAsks readonly p cs answers q
    → SameSeat p q × (q.calls ≡ p.calls ++ made readonly cs answers)
asked-grows readonly _ _ _ _ (nothing p) = ((refl, refl, refl), sym (append-nil p.calls))
asked-grows readonly _ _ _ _ (then_one p mid q cs answers c a before step) =
    let h = asked-grows readonly p cs answers mid before in
    let k = answered-grows mid q (call_of readonly c) a step in (
      (k.0.0 ∙ h.0.0, k.0.1 ∙ h.0.1, k.0.2 ∙ h.0.2),
      k.1 ∙ ap (λ l. l ++ made_one (call_of readonly c) a) h.1 ∙ append_assoc p.calls (made readonly cs answers) (made_one (call_of readonly c) a)
          ∙ ap (λ l. p.calls ++ l) (sym (made-push readonly cs answers c a (asked-length readonly p cs answers mid before))),
    )

pub serves-seat : (readonly : Bool) (most : ℕ) (went : Result Ended ServeFault → Course → Type 0) (old new : SeatState) (had left : Input) (held holds : Output) (r : Result Ended ServeFault)
    → ServesSo SeatAsks readonly most went old new had left held holds r → SeatServes readonly most went old new had left held holds r
serves-seat readonly most went old new had left held holds r h = let k = asked-grows readonly old h.course.taken h.course.answers new h.asked in record {
  same = k.0;
  serves = h;
  calls = k.1;
}
