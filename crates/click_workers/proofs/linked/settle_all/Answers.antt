use Rattle.std.proofs.Common.{rules, refl, ◌≡◌, ◌++◌, ◌∷◌, [], true, List, map, option_map, ap, subst, sym, ◌∙◌, length-append, arith}
use Rattle.std.specs.List.{All}
use Rattle.std.specs.Vec.Iter.{into_iter_items}
use Rattle.std.proofs.lemmas.List.Elements.{All-head, All-tail}
use Rattle.click_rings.specs.Feeds.{FeedName, have_distinct_devices}
use Rattle.click_rings.proofs.Draws.{tail_apart}
use Rattle.click_desk.specs.BookState.{BookState}
use Rattle.click_desk.specs.declared.entry.Entry.{Entry}
use Rattle.click_links.specs.declared.run.Receiver.{Receiver}
use Rattle.click_workers.specs.Linked.{HasRing, IsSettled}
use Rattle.click_workers.specs.Work.{SideBySide}
use Rattle.click_workers.specs.declared.linked.LinkEnd.{LinkEnd}
use Rattle.click_workers.proofs.LinkFeeds.{others-differ}
use Rattle.click_workers.proofs.NewSeats.{pairs-push}
use Rattle.click_workers.proofs.linked.settle_all.Goals as goal

pub settle_one-requires : goal.settle_one-requires
settle_one-requires g c =
    let R = Receiver g.row.L.Denot in
    let P : R → Type 0 = λ r. HasRing c.loop-receiver.book.consumers r.device r.intake.feed.ring in
    let all = subst (λ (l : List R). All P l) c.in-Some.ensures.steps.0 c.loop-receiver.invariant.feeds in
    All-head P c.in-Some.receiver (into_iter_items c.next.new.self) all

pub loop-receiver-init : goal.loop-receiver-init
loop-receiver-init g c =
    let R = Receiver g.row.L.Denot in
    let F : R → FeedName = λ r. record { device = r.device; ring = r.intake.feed.ring } in
    let all = sym c.into_iter-receiver-iterator.ensures.into_iter_gives.0 in
    record {
      book = refl;
      none = λ bare. bare;
      feeds = subst (λ (l : List R). All (λ r. HasRing c.args.book.now.consumers r.device r.intake.feed.ring) l) all c.requires.feeds;
      apart = subst (λ (l : List R). have_distinct_devices (map F l) ≡ true) all c.requires.apart;
      room = search rules;
      ends = search rules;
    }

pub loop-receiver-preserved : goal.loop-receiver-preserved
loop-receiver-preserved g c =
    let h = c.loop-receiver.invariant in
    let s = c.settle_one.ensures in
    let R = Receiver g.row.L.Denot in
    let F : R → FeedName = λ r. record { device = r.device; ring = r.intake.feed.ring } in
    let E = LinkEnd g.row.L.Denot in
    let P : R → Type 0 = λ r. HasRing c.loop-receiver.book.consumers r.device r.intake.feed.ring in
    let Q : R → E → Type 0 =
    λ r e. (e.device ≡ r.device) × (e.link ≡ r.link) × (e.received ≡ r.received) × IsSettled c.args.book.now.entries r.device r.intake.feed.put (option_map (λ v. v.items) e.left) in
    let r = c.in-Some.receiver in
    let coming = into_iter_items c.next.new.self in
    let entries = ap (λ (b : BookState). b.entries) h.book in
    let left = subst (λ (es : List Entry). IsSettled es r.device r.intake.feed.put (option_map (λ v. v.items) c.settle_one.result.left)) entries s.left in
    let more = pairs-push Q c.loop-receiver.yielded c.loop-receiver.ends.items r c.settle_one.result h.ends (s.same.0, s.same.1, s.same.2, left) in
    let feeds = All-tail P r coming (subst (λ (l : List R). All P l) c.in-Some.ensures.steps.0 h.feeds) in
    let apart : have_distinct_devices (map F (r ∷ coming)) ≡ true = subst (λ (l : List R). have_distinct_devices (map F l) ≡ true) c.in-Some.ensures.steps.0 h.apart in
    record {
      book = s.book ∙ ap (λ (b : BookState). record b { consumers = c.settle_one.new.book.consumers }) h.book;
      none = λ bare. s.none (h.none bare);
      feeds = λ k d below. s.others _ _ (others-differ F r coming apart k d below) (feeds k d below);
      apart = tail_apart (F r) (map F coming) apart;
      room = (omega (arith, h.room.0, c.push_reserved.ensures.len, length-append c.loop-receiver.yielded (r ∷ [])), omega (arith, h.room.1, c.push_reserved.ensures.capacity));
      ends = subst (λ (l : List E). SideBySide Q (c.loop-receiver.yielded ++ r ∷ []) l) (sym {A = List E} c.push_reserved.ensures.items) more;
    }
