use Rattle.std.proofs.Common.{◌≡◌, map, take}
use Rattle.serde_json.specs.View.{view}
use Rattle.click_page.specs.Form.{connection_data}
use Rattle.click_page.proofs.flat_json.connections_value.Given as goal

abbrev pub invariant-loop-connection : goal.invariant-loop-connection
invariant-loop-connection l = map view l.values.items ≡ map connection_data (take l.connection-index l.connections)
