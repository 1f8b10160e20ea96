use Rattle.std.proofs.Common.{◌≡◌, List, ap, ◌∙◌, sym, subst}
use Rattle.std.specs.List.{All}
use Rattle.crossbeam_queue.specs.Passes.{view}
use Rattle.click_rings.specs.Feeds.{FeedName}
use Rattle.click_desk.specs.DeskSetups.{setup_of, terms_of}
use Rattle.click_desk.specs.declared.logged_router.RouterLog.{RouterLog}
use Rattle.click_desk.specs.declared.desk_setup.DeskSetup.{DeskSetup}
use Rattle.click_desk.specs.declared.pass_knowledge.PassKnowledge.{PassKnowledge}
use Rattle.click_desk.specs.SeatStates.{DeskName, SeatState, seats_below}
use Rattle.click_desk.proofs.SeatedEntries.{all_belong, all_fed}
use Rattle.click_desk.proofs.open.Desk+T+ref+R.put_together.Goals as goal

pub returns-clause-seats : goal.returns-clause-seats
returns-clause-seats g c =
    let parts = c.args.opening.parts in
    let feeds : List FeedName = c.args.inlets.items in
    let options : (view c.give.new.pass).options ≡ setup_of parts.beside feeds =
    ap (λ (v : PassKnowledge). v.options) c.give.ensures.given ∙ (c.new-logged_router.ensures.0 ∙ (λ i. setup_of ((ap (λ (l : RouterLog). l.options) c.deref_mut.ensures.value ∙ c.requires.options) i) (c.open_all.ensures.names i))) in
    let desk : DeskName = record { table = parts.queue.table.shared.table_id; options = parts.beside } in
    let made : c.make_seats.new.given.items ≡ seats_below desk feeds parts.beside.seats =
    c.make_seats.ensures ∙ ap (λ (y : DeskSetup). seats_below (record { table = desk.table; options = terms_of y }) y.feeds parts.beside.seats) options in
    (made, subst (λ (l : List SeatState). All (λ s. s.desk ≡ desk) l) (sym made) (all_belong desk feeds parts.beside.seats))

pub returns-clause-fed : goal.returns-clause-fed
returns-clause-fed g c =
    let parts = c.args.opening.parts in
    let feeds : List FeedName = c.args.inlets.items in
    let made = (returns-clause-seats g c).0 in
    subst (λ (l : List SeatState). All (λ s. s.feeds ≡ feeds) l) (sym made) (all_fed _ feeds parts.beside.seats)
