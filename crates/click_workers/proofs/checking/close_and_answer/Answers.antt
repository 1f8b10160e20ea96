use Rattle.std.proofs.Common.{◌≡◌, List, slice_index_or, subst}
use Rattle.std.specs.List.{All}
use Rattle.click_desk.specs.BookState.{BookState}
use Rattle.click_desk.specs.History.{installs}
use Rattle.click_desk.specs.SeatStates.{SeatState, IsSeat}
use Rattle.click_views.specs.Showing.{BeginsWith, IsLast}
use Rattle.click_workers.proofs.LastViews.{begins-along, shows-all}
use Rattle.click_workers.proofs.checking.close_and_answer.Goals as goal

pub returns-clause-checked : goal.returns-clause-checked
returns-clause-checked g c =
    let book : BookState = c.close_all-book.result in
    let seats : List SeatState = c.args.seats.items in
    let list = c.check_read-check.new.self.list in
    let answer = c.check_read-check.ensures.answer in
    let told : All (λ s. IsSeat s × BeginsWith list (installs s.desk.options.opening s.seen)) seats =
    λ k d below.
    let s : SeatState = slice_index_or seats k d in
    let old = subst (λ (l : List SeatState). All (λ s. IsSeat s × BeginsWith c.learn_all.new.view.list (installs s.desk.options.opening s.seen)) l) c.as_slice.ensures.value c.learn_all.ensures.told k d below in
    (old.0, begins-along list c.learn_all.new.view.list (installs s.desk.options.opening s.seen) c.check_read-check.ensures.later old.1) in
    let is : list ≡ installs book.opening book.entries = shows-all c.args.desk seats book list c.requires.some c.requires.seats c.close_all-book.ensures told c.meet.ensures in
    (answer.0, answer.1, subst (λ l. IsLast l answer.0) is answer.2, answer.3, answer.4)
