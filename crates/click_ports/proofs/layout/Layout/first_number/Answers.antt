use Rattle.std.proofs.Common.{◌≡◌, ◌+◌, ◌≤◌, length, arith}
use Rattle.click_ports.specs.Ports.{first, port_index, used}
use Rattle.click_ports.specs.declared.port.Port.{Port}
use Rattle.click_ports.proofs.PortNumbers.{laid-seen, first-read}
use Rattle.click_ports.proofs.layout.Layout.first_number.Goals as goal
use Rattle.click_ports.proofs.layout.Layout.first_number.Goals.{After-ahead}

-- the number is right, and the ports of the side follow it
told : (c : After-ahead) → (c.index-block.result.now.first + c.ahead.result ≡ port_index c.args.self.now.connections (record { element = c.args.element; side = c.args.side; number = 0 }))
    × (c.index-block.result.now.first + c.ahead.result + used c.args.self.now.connections c.args.element c.args.side ≤ first c.args.self.now.connections (length c.args.self.now.shapes))
    × (first c.args.self.now.connections (length c.args.self.now.shapes) ≡ length c.self.inside.ports.items)
told c =
    let i = c.self.inside in let w = c.args.self.now in
    first-read w.shapes w.connections i.blocks.items i.ports.items c.args.element c.args.side c.index-block.result.now c.ahead.result
    (laid-seen w i.elements.items i.joined.items i.blocks.items i.ports.items c.self.view_is c.self.invariant) c.requires c.index-block.ensures c.ahead.ensures

pub overflow_add-result : goal.overflow_add-result
overflow_add-result c =
    let t = told ((goal.at.overflow_add-result c).After-ahead) in omega (arith, t.1, t.2, c.from.ensures, c.self.inside.ports.ok.0, c.self.inside.ports.small)

pub returns-clause-value : goal.returns-clause-value
returns-clause-value c =
    let t = told ((goal.at.returns-clause-value c).After-ahead) in omega (arith, t.0, c.from.ensures)

pub returns-clause-within : goal.returns-clause-within
returns-clause-within c =
    let t = told ((goal.at.returns-clause-within c).After-ahead) in omega (arith, t.1, c.from.ensures)
