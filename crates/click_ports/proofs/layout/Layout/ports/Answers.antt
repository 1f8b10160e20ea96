use Rattle.std.proofs.Common.{sym, subst, List}
use Rattle.click_ports.specs.declared.port.Port.{Port}
use Rattle.click_ports.specs.kept.Wiring.{InPlace}
use Rattle.click_ports.proofs.PortNumbers.{laid-seen}
use Rattle.click_ports.proofs.layout.Layout.ports.Goals as goal

pub returns-clause-right : goal.returns-clause-right
returns-clause-right c =
    let i = c.self.inside in
    let k = laid-seen c.args.self.now i.elements.items i.joined.items i.blocks.items i.ports.items c.self.view_is c.self.invariant in
    subst (λ (xs : List Port). InPlace c.args.self.now.connections xs) (sym c.as_slice.ensures.value) k.numbered.ports_right
