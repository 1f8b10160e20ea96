use Rattle.std.proofs.Common.{◌<◌, ◌∙◌, Some, ap, sym, length, rules}
use Rattle.std.proofs.lemmas.Option.{slice_get-get_or}
use Rattle.click_engine.specs.Devices.{element_with}
use Rattle.click_engine.proofs.OfNames.FirstDevices.{beside, beside_name}
use Rattle.click_engine.proofs.devices.Devices.find_unindexed.Goals as goal

pub returns : goal.returns
returns c =
    let d = c.self.inside in let name = c.args.device.now in let at = c.in_ok-at.at in
    let inside : at < length d.places.items = search rules in
    sym (ap Some c.index.ensures ∙ sym (slice_get-get_or d.places.items at c.index.result.now inside) ∙ ap (beside d.places.items) (sym c.in_ok-at.ensures)
    ∙ sym (beside_name d.names d.places.items name c.self.invariant) ∙ ap (λ ds. element_with ds name) c.self.view_is)
