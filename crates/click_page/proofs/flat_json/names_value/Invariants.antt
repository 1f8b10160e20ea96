use Rattle.std.proofs.Common.{◌≡◌, map, take}
use Rattle.serde_json.specs.View.{view}
use Rattle.click_page.specs.Form.{bytes_data}
use Rattle.click_page.proofs.flat_json.names_value.Given as goal

abbrev pub invariant-loop-name : goal.invariant-loop-name
invariant-loop-name l = map view l.values.items ≡ map bytes_data (map (λ n. n.now) (take l.name-index l.names))
