use Rattle.std.proofs.Common.{◌≡◌, map, take}
use Rattle.serde_json.specs.View.{view}
use Rattle.click_page.specs.Form.{port_data}
use Rattle.click_page.proofs.flat_json.ports_value.Given as goal

abbrev pub invariant-loop-mark : goal.invariant-loop-mark
invariant-loop-mark l = map view l.values.items ≡ map port_data (take l.mark-index l.marks)
