use Rattle.std.proofs.Common.{◌≡◌, ℕ, List, Option, Some, sym, ap, ◌∙◌}
use Rattle.click_classes.specs.Acts.{resolved}
use Rattle.click_classes.specs.Neighbours.{place_of}
use Rattle.click_classes.proofs.classes.querier.resolve.Goals as goal

pub returns-in-Some : goal.returns-in-Some
returns-in-Some c =
    let q = c.args.querier.now in
    let p = c.args.packet.now in
    let there : place_of q.table p.destination ≡ Some c.in-Some.place =
    sym (c.in-Some.ensures.place ∙ ap (λ (d : List ℕ). place_of q.table d) c.destination.ensures) in
    ap (λ (o : Option ℕ). resolved c.args.outputs q p o) there ∙ c.resolve_at.ensures
