use Rattle.std.proofs.Common.{◌≡◌, ◌++◌, take}
use Rattle.std.specs.List.{flat_map}
use Rattle.click_expand.specs.FlatText.{requirement, element_line, connection_line}
use Rattle.click_expand.proofs.flat_writing.flat_text.Given as goal

abbrev pub invariant-loop-element : goal.invariant-loop-element
invariant-loop-element l = l.text.items ≡ requirement l.elements ++ flat_map element_line (take l.element-index l.elements)

abbrev pub invariant-loop-connection : goal.invariant-loop-connection
invariant-loop-connection l = l.text.items ≡ requirement l.elements ++ flat_map element_line l.elements ++ flat_map (connection_line l.elements) (take l.connection-index l.flat.connections)
