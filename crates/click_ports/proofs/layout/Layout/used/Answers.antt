use Rattle.click_ports.proofs.PortNumbers.{laid-seen, used-read}
use Rattle.click_ports.proofs.layout.Layout.used.Goals as goal

pub returns-clause-value : goal.returns-clause-value
returns-clause-value c =
    let i = c.self.inside in let w = c.args.self.now in
    let k = laid-seen w i.elements.items i.joined.items i.blocks.items i.ports.items c.self.view_is c.self.invariant in
    (used-read w.shapes w.connections i.blocks.items i.ports.items c.args.element c.index.result.now c.args.side c.count.result k c.requires c.index.ensures c.count.ensures).0

pub returns-clause-small : goal.returns-clause-small
returns-clause-small c =
    let i = c.self.inside in let w = c.args.self.now in
    let k = laid-seen w i.elements.items i.joined.items i.blocks.items i.ports.items c.self.view_is c.self.invariant in
    (used-read w.shapes w.connections i.blocks.items i.ports.items c.args.element c.index.result.now c.args.side c.count.result k c.requires c.index.ensures c.count.ensures).1
