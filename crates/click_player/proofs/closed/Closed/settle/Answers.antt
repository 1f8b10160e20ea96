use Rattle.std.proofs.Common.{◌≡◌, List, map, sym, ap, ◌∙◌, subst}
use Rattle.std.specs.List.{All}
use Rattle.click_rings.specs.Feeds.{ConsumerState, FeedName, name_of, have_distinct_devices}
use Rattle.click_desk.specs.BookState.{BookState}
use Rattle.click_desk.specs.Polls.{without}
use Rattle.click_desk.proofs.Settlements.{apart_without}
use Rattle.click_player.proofs.Rings.{ring_of, rings_away, rings_left, others_left}
use Rattle.click_player.proofs.closed.Closed.settle.Goals as goal

pub settle-requires : goal.settle-requires
settle-requires g c =
    let n : FeedName = c.remove.result in
    let named : n.device ≡ c.args.device.now = ap (λ (f : FeedName). f.device) c.remove.ensures.value ∙ c.in_ok-place.ensures.named n in
    let ring : n.ring ≡ c.name.inside.end.ring = sym (ap (λ (f : FeedName). f.ring) c.name.view_is) in
    λ k d below same. ring_of c.self.inside.finished.items c.self.inside.book.consumers c.in_ok-place.place n c.args.device.now c.self.invariant.0 c.in_ok-place.ensures.place c.remove.ensures.value named k d below same ∙ ring

pub invariant_of-self : goal.invariant_of-self
invariant_of-self g c =
    let device = c.args.device.now in
    let ts : List ConsumerState = c.self.inside.book.consumers in
    let gone : c.settle.new.self.consumers ≡ without device ts = ap (λ (b : BookState). b.consumers) c.in-Ok.ensures.settled in (
      rings_away c.self.inside.finished.items c.remove.new.self.items (map name_of c.settle.new.self.consumers) c.in_ok-place.place c.remove.ensures.items (rings_left c.self.inside.finished.items device ts c.settle.new.self.consumers gone c.self.invariant.0),
      ap (λ (l : List ConsumerState). have_distinct_devices (map name_of l)) gone ∙ apart_without device ts c.self.invariant.1,
      (λ k d below. c.self.invariant.2 k d below ∙ sym (ap (λ (b : BookState). b.board) c.in-Ok.ensures.settled)),
    )

pub returns-in-Ok : goal.returns-in-Ok
returns-in-Ok g c =
    let device = c.args.device.now in
    let ts : List ConsumerState = c.self.inside.book.consumers in
    let gone : c.settle.new.self.consumers ≡ without device ts = ap (λ (b : BookState). b.consumers) c.in-Ok.ensures.settled in
    subst (λ (l : List ConsumerState). All (λ t. t.device ≡ device → ⊥) l) (sym gone) (others_left device ts c.self.invariant.1)
