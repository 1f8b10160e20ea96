use Rattle.std.proofs.Common.{◌≡◌, ◌∙◌, ap, sym}
use Rattle.std.specs.Arc.{arc_value}
use Rattle.boxcar.specs.Table.{Shelves}
use Rattle.click_views.specs.Showing.{numbers}
use Rattle.click_views.proofs.Boards.{no_views}
use Rattle.click_views.proofs.view.View.learn.Goals as goal

pub unreachable-requires : goal.unreachable-requires
unreachable-requires g c =
    let told = c.notice.inside in
    let board : told.of ≡ arc_value c.self.inside.board = ap (λ n. n.board) c.notice.view_is ∙ (c.requires ∙ sym (ap (λ v. v.board) c.self.view_is)) in
    let kept : told.of.tag ≡ numbers c.self.inside.mark.told.book = ap (λ (b : Shelves). b.tag) board ∙ c.self.invariant.1 in
    no_views told.of told.mark (record { book = told.seen.book; log = told.seen.log }) c.self.inside.mark.told.book c.notice.invariant c.in-None.is kept
