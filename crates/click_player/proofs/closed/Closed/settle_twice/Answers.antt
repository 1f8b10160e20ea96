use Rattle.std.proofs.Common.{◌≡◌, List, map, true, Result, Ok, Err, OnOk, IfErr, refl, sym, ◌∙◌, subst}
use Rattle.click_rings.specs.Feeds.{FeedName, name_of, have_distinct_devices}
use Rattle.click_desk.specs.BookState.{BookState}
use Rattle.click_desk.specs.Polls.{without}
use Rattle.click_desk.proofs.Settlements.{apart_without}
use Rattle.click_player.specs.Belonging.{HaveRings}
use Rattle.click_player.proofs.Rings.{rings_left}
use Rattle.click_player.proofs.closed.Closed.settle_twice.Goals as goal

-- A property of the book without the feed and of the unchanged book holds after a settlement, which
-- may be refused.
after_settle : {A E : Type 0} (r : Result A E) (F : E → Type 0) (Q : BookState → Type 0) (old new left : BookState) → OnOk r (new ≡ left) → IfErr r F → ((e : E) → F e → new ≡ old) → Q left → Q old → Q new
after_settle (Ok x) F Q old new left settled refused same q p = subst Q (sym settled) q
after_settle (Err e) F Q old new left settled refused same q p = subst Q (sym (same e refused)) p

pub invariant_of-self-in-Ok : goal.invariant_of-self-in-Ok
invariant_of-self-in-Ok g c =
    let device = c.args.device.now in
    let ds : List FeedName = c.self.inside.finished.items in
    let old : BookState = c.self.inside.book in
    let new : BookState = c.settle-in-Ok.new.self in
    let Q : BookState → Type 0 = λ b. HaveRings ds (map name_of b.consumers) × (have_distinct_devices (map name_of b.consumers) ≡ true) × (b.board ≡ old.board) in
    let q : Q new =
    after_settle c.settle-in-Ok.result (λ r. (r.end ≡ c.in_ok-second.second) × (new ≡ old)) Q old new (record old { consumers = without device old.consumers }) c.settle-in-Ok.ensures.settled c.settle-in-Ok.ensures.refused (λ r same. same.1)
    (rings_left ds device old.consumers (without device old.consumers) refl c.self.invariant.0, apart_without device old.consumers c.self.invariant.1, refl) (c.self.invariant.0, c.self.invariant.1, refl) in
    (q.0, q.1, (λ k d below. c.self.invariant.2 k d below ∙ sym q.2))
