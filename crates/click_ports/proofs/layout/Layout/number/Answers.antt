use Rattle.std.proofs.Common.{◌≡◌, ◌+◌, ◌<◌, length, arith}
use Rattle.click_ports.specs.Ports.{port_index}
use Rattle.click_ports.specs.kept.LaidOut.{IsLaidOut}
use Rattle.click_ports.proofs.PortUses.{has-within}
use Rattle.click_ports.proofs.PortNumbers.{laid-seen, number-read}
use Rattle.click_ports.proofs.layout.Layout.number.Goals as goal
use Rattle.click_ports.proofs.layout.Layout.number.Goals.{After-self, After-ahead}

kept : (c : After-self) → IsLaidOut c.args.self.now.shapes c.args.self.now.connections c.self.inside.blocks.items c.self.inside.ports.items
kept c = let i = c.self.inside in laid-seen c.args.self.now i.elements.items i.joined.items i.blocks.items i.ports.items c.self.view_is c.self.invariant

pub index-block-requires : goal.index-block-requires
index-block-requires c =
    let k = kept c in
    let l = has-within (length c.args.self.now.shapes) c.args.self.now.connections c.args.port k.within c.requires in
    omega (arith, l, k.numbered.all_blocks, c.self.inside.blocks.ok.0)

-- the number is right, and is an index of the ports
told : (c : After-ahead) → (c.index-block.result.now.first + c.ahead.result + c.args.port.number ≡ port_index c.args.self.now.connections c.args.port)
    × (port_index c.args.self.now.connections c.args.port < length c.self.inside.ports.items)
told c =
    let i = c.self.inside in let w = c.args.self.now in
    number-read w.shapes w.connections i.blocks.items i.ports.items c.args.port c.index-block.result.now c.ahead.result
    (laid-seen w i.elements.items i.joined.items i.blocks.items i.ports.items c.self.view_is c.self.invariant) c.requires c.index-block.ensures c.ahead.ensures

pub overflow_add-result : goal.overflow_add-result
overflow_add-result c =
    let t = told ((goal.at.overflow_add-result c).After-ahead) in omega (arith, t.0, t.1, c.from.ensures, c.self.inside.ports.ok.0, c.self.inside.ports.small)

pub overflow_add-result-2 : goal.overflow_add-result-2
overflow_add-result-2 c =
    let t = told ((goal.at.overflow_add-result-2 c).After-ahead) in omega (arith, t.0, t.1, c.from.ensures, c.from-2.ensures, c.self.inside.ports.ok.0, c.self.inside.ports.small)

pub returns-clause-value : goal.returns-clause-value
returns-clause-value c =
    let t = told ((goal.at.returns-clause-value c).After-ahead) in omega (arith, t.0, c.from.ensures, c.from-2.ensures)

pub returns-clause-within : goal.returns-clause-within
returns-clause-within c =
    let t = told ((goal.at.returns-clause-within c).After-ahead) in
    let w = c.args.self.now in let i = c.self.inside in
    let k = laid-seen w i.elements.items i.joined.items i.blocks.items i.ports.items c.self.view_is c.self.invariant in
    omega (arith, t.0, t.1, c.from.ensures, c.from-2.ensures, k.numbered.all_ports)
