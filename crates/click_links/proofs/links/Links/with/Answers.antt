use Rattle.std.proofs.Common.{◌≡◌, ◌++◌, ◌∷◌, [], map, List, ℕ, sym, subst, ap, refl, ◌∙◌}
use Rattle.std.specs.List.{All}
use Rattle.std.proofs.lemmas.List.{map-append}
use Rattle.std.proofs.lemmas.List.Elements.{All-push}
use Rattle.click_rings.specs.Feeds.{FeedName, RingName}
use Rattle.click_links.specs.Ends.{IsNewFeed, Offering}
use Rattle.click_links.specs.declared.run.Receiver.{Receiver}
use Rattle.click_links.proofs.links.Links.with.Goals as goal

pub invariant_of-result : goal.invariant_of-result
invariant_of-result g c =
    let R = Receiver g.row.L.Denot in
    let named : List ℕ → RingName → FeedName = λ d r. record { device = d; ring = r } in
    let F : R → FeedName = λ r. record { device = r.device; ring = r.intake.feed.ring } in
    let P : R → Type 0 = λ r. IsNewFeed r.intake in
    let old = c.args.self.receivers.items in
    let r = c.new-receiver.result in
    let device : r.device ≡ c.args.name.now = c.new-receiver.ensures.0 ∙ c.in_ok-copy_of.ensures in
    let intake : r.intake ≡ record { feed = c.in_ok-feed.feed; asked = [] } = c.new-receiver.ensures.1 ∙ c.of.ensures in
    let is : c.in_ok-feed.inlet ≡ F r =
    c.in_ok-feed.ensures.pair ∙ ap (λ d. named d c.in_ok-feed.feed.ring) (sym device) ∙ ap (λ (o : Offering). named r.device o.feed.ring) (sym intake) in
    let empty : P r = subst IsNewFeed (sym {A = Offering} intake) (c.in_ok-feed.ensures.empty.0, refl, c.in_ok-feed.ensures.empty.1) in
    let all : All P (old ++ r ∷ []) = All-push P old r c.args.self.fresh empty in
    record {
      fed = c.in_ok-push-2.ensures.items ∙ ap (λ (l : List FeedName). l ++ c.in_ok-feed.inlet ∷ []) c.args.self.fed ∙ ap (λ (x : FeedName). map F old ++ x ∷ []) is
          ∙ sym (map-append F old (r ∷ [])) ∙ ap (map F) (sym c.in_ok-push.ensures.items);
      fresh = subst (λ (l : List R). All P l) (sym c.in_ok-push.ensures.items) all;
    }
