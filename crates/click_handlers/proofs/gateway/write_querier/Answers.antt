use Rattle.std.proofs.Common.{◌≡◌, true, refl, sym, ap, ◌∙◌, rules}
use Rattle.std.specs.Prelude.{codes}
use Rattle.std.specs.Str.{bytes_eq}
use Rattle.std.proofs.lemmas.Slice.Eq.{bytes_eq-Decides}
use Rattle.click_handlers.specs.Writes.{write_value}
use Rattle.click_handlers.proofs.CallsByName.{write_as}
use Rattle.click_handlers.proofs.gateway.write_querier.Goals as goal

pub returns-then-eq-4 : goal.returns-then-eq-4
returns-then-eq-4 c =
    let same : bytes_eq c.args.name.now (codes "reset_counts") ≡ true = search rules in
    let is = (bytes_eq-Decides c.args.name.now (codes "reset_counts")).0 same in
    write_as c.args.name.now (codes "reset_counts") c.args.element c.args.text.now c.reset_querier_drops.result (ap (λ n. write_value n c.args.element c.args.text.now) is) refl c.reset_querier_drops.ensures
