use Rattle.std.proofs.Common.{◌≡◌, ◌++◌, map, drop}
use Rattle.serde_json.specs.View.{view}
use Rattle.click_page.specs.Form.{elements_data}
use Rattle.click_page.proofs.flat_json.elements_value.Given as goal

abbrev pub invariant-loop-at : goal.invariant-loop-at
invariant-loop-at l = map view l.values.items ++ elements_data (drop l.at l.elements) (drop l.at l.figures) ≡ elements_data l.elements l.figures
