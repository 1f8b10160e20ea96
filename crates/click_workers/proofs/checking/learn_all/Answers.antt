use Rattle.std.proofs.Common.{ℕ, List, slice_index_or, arith, ap, subst, ◌∙◌}
use borrow.Author.Count.{below_more}
use Rattle.click_desk.specs.History.{installs}
use Rattle.click_desk.specs.SeatStates.{SeatState, IsSeat}
use Rattle.click_views.specs.Showing.{BeginsWith, Showing}
use Rattle.click_workers.proofs.LastViews.{begins-along, same-at}
use Rattle.click_workers.proofs.checking.learn_all.Goals as goal

Told : List (List ℕ) → SeatState → Type 0
Told list s = IsSeat s × BeginsWith list (installs s.desk.options.opening s.seen)

pub loop-at-preserved : goal.loop-at-preserved
unfolding Told
loop-at-preserved g c =
    let seats = c.args.seats.now in
    let at = c.loop-at.at in
    let list = c.learn.new.self.list in
    let x : SeatState = c.index-seats-at.result in
    let notice : Showing (List ℕ) = c.notice.result.now in
    let here : Told list x = (c.notice.ensures.sound, subst (λ l. BeginsWith list l) (ap (λ (s : Showing (List ℕ)). s.list) c.notice.ensures.told) c.learn.ensures.told) in
    record {
      board = c.learn.ensures.board ∙ c.loop-at.invariant.board;
      told = below_more (λ k. (d : SeatState) → Told list (slice_index_or seats k d)) at
          (λ k below d. let s : SeatState = slice_index_or seats k d in let old = c.loop-at.invariant.told k below d in
          (old.0, begins-along list c.loop-at.view.list (installs s.desk.options.opening s.seen) c.learn.ensures.later old.1))
          (λ d. subst (Told list) (c.index-seats-at.is ∙ same-at seats at x d c.loop-at-test.true) here);
    }

pub returns-clause-told : goal.returns-clause-told
returns-clause-told g c = λ k d below. c.loop-at.invariant.told k (omega (arith, below, c.loop-at-test.false)) d
