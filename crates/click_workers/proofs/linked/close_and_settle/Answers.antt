use Rattle.std.proofs.Common.{◌≡◌, List, None, map, option_map, refl, ap, subst, sym, ◌∙◌}
use Rattle.click_rings.specs.Feeds.{FeedName}
use Rattle.click_desk.specs.BookState.{BookState}
use Rattle.click_desk.specs.declared.entry.Entry.{Entry}
use Rattle.click_links.specs.declared.run.Receiver.{Receiver}
use Rattle.click_workers.specs.Linked.{IsSettled}
use Rattle.click_workers.specs.Runs.{HeadlineWith}
use Rattle.click_workers.specs.Work.{SideBySide}
use Rattle.click_workers.specs.declared.linked.LinkEnd.{LinkEnd}
use Rattle.click_workers.proofs.LinkFeeds.{resettled}
use Rattle.click_workers.proofs.linked.close_and_settle.Goals as goal

pub finish-all-requires-clause-seats : goal.finish-all-requires-clause-seats
finish-all-requires-clause-seats g c κs within = λ k d below. (c.requires.of k d below).0

pub settle-requires-clause-feeds : goal.settle-requires-clause-feeds
settle-requires-clause-feeds g c =
    let F : Receiver g.row.L.Denot → FeedName = λ r. record { device = r.device; ring = r.intake.feed.ring } in
    let options = c.args.desk.options in
    (c.finish-all.ensures.headline (map F c.args.linked.links.items) options.room options.opening options.seats c.requires.of (refl, refl, refl)).1

pub returns-clause-headline : goal.returns-clause-headline
returns-clause-headline g c = λ text n options.
    let F : Receiver g.row.L.Denot → FeedName = λ r. record { device = r.device; ring = r.intake.feed.ring } in
    let feeds = map F c.args.linked.links.items in
    let h = (c.finish-all.ensures.headline feeds None text n c.requires.of options).0 in
    subst (λ (b : BookState). HeadlineWith feeds None text n b) (sym c.settle.ensures.book)
    (resettled feeds None text n c.finish-all.result.book c.settle.result.book.consumers c.settle.ensures.none h)

pub returns-clause-seats : goal.returns-clause-seats
returns-clause-seats g c = ap (λ (b : BookState). b.seats) c.settle.ensures.book ∙ c.finish-all.ensures.seats

pub returns-clause-links : goal.returns-clause-links
returns-clause-links g c =
    let same : c.settle.result.book.entries ≡ c.finish-all.result.book.entries = ap (λ (b : BookState). b.entries) c.settle.ensures.book in
    subst (λ (es : List Entry). SideBySide (λ (r : Receiver g.row.L.Denot) (e : LinkEnd g.row.L.Denot). (e.device ≡ r.device) × (e.link ≡ r.link) × (e.received ≡ r.received)
    × IsSettled es r.device r.intake.feed.put (option_map (λ l. l.items) e.left)) c.args.linked.links.items c.settle.result.links.items) (sym same) c.settle.ensures.links
