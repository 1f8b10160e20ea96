use Rattle.std.proofs.Common.{◌≡◌, ℕ, Some, List}
use Rattle.std.proofs.lemmas.List.Elements.{All-pop}
use Rattle.click_views.specs.Showing.{Showing}
use Rattle.click_tests.proofs.views.last_views.Goals as goal

pub returns : goal.returns
returns g c =
    let last = All-pop (λ (v : Showing (List ℕ)). v.board ≡ c.args.desk.now.options.origin) c.args.views.items c.pop.new.self.items (Some c.in_ok-last.last) c.in_ok-last.ensures.items c.requires in
    let next = All-pop (λ (v : Showing (List ℕ)). v.board ≡ c.args.desk.now.options.origin) c.pop.new.self.items c.pop-2.new.self.items (Some c.in_ok-next.next) c.in_ok-next.ensures.items last.0 in
    (last.1, next.1)
