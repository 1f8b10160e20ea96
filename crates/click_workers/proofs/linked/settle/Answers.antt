use Rattle.std.proofs.Common.{◌≡◌, ◌∙◌, true, List, map, ap, subst}
use Rattle.std.specs.List.{All}
use Rattle.click_rings.specs.Feeds.{FeedName, name_of, have_distinct_devices}
use Rattle.click_links.specs.declared.run.Receiver.{Receiver}
use Rattle.click_workers.specs.Linked.{HasRing}
use Rattle.click_workers.proofs.LinkFeeds.{own-feeds, from-map}
use Rattle.click_workers.proofs.linked.settle.Goals as goal

pub settle_all-requires-clause-feeds : goal.settle_all-requires-clause-feeds
settle_all-requires-clause-feeds g c =
    let F : Receiver g.row.L.Denot → FeedName = λ r. record { device = r.device; ring = r.intake.feed.ring } in
    let links = c.args.receivers.items in
    let consumers = c.args.all.book.consumers in
    let apart : have_distinct_devices (map name_of consumers) ≡ true = ap have_distinct_devices c.requires.feeds ∙ c.requires.apart in
    from-map (λ (f : FeedName). HasRing consumers f.device f.ring) F links
    (subst (λ (l : List FeedName). All (λ (f : FeedName). HasRing consumers f.device f.ring) l) c.requires.feeds (own-feeds consumers apart))
