use Rattle.std.proofs.Common.{◌≡◌, length, get_or, sym, subst, arith}
use Rattle.click_classes.specs.declared.ports.Side.TheVariants.{Input}
use Rattle.click_ports.specs.declared.port.Port.{Port}
use Rattle.click_ports.specs.Ports.{first}
use Rattle.click_ports.proofs.PortUses.{has-within}
use Rattle.click_ports.proofs.InnerLinks.{AreCodesBelow, codes-none, codes-more, codes-all, read-place}
use Rattle.click_ports.proofs.kinds.codes_of.Goals as goal

pub code-requires : goal.code-requires
code-requires c =
    let w = c.args.layout.now in let ports = c.ports-port-items.result.now in let i = c.loop-port.port-index in
    let d : Port = record { element = 0; side = Input; number = 0 } in
    has-within (length w.shapes) w.connections (get_or ports i d) c.ports-port-items.ensures.within (read-place w.connections ports i d c.ports-port-items.ensures.right c.loop-port-test.true).0

pub loop-port-init : goal.loop-port-init
loop-port-init c = subst (AreCodesBelow c.args.layout.now 0) (sym c.in_ok-codes.ensures.items) (codes-none c.args.layout.now)

pub loop-port-preserved : goal.loop-port-preserved
loop-port-preserved c =
    let w = c.args.layout.now in let ports = c.ports-port-items.result.now in let i = c.loop-port.port-index in
    let d : Port = record { element = 0; side = Input; number = 0 } in
    let read = read-place w.connections ports i d c.ports-port-items.ensures.right c.loop-port-test.true in
    codes-more w (get_or ports i d) i c.loop-port.codes.items c.push.new.self.items c.code.result read.0 read.1 c.code.ensures c.in_ok-push.ensures.items c.loop-port.invariant

pub returns-clause-codes : goal.returns-clause-codes
returns-clause-codes c =
    let w = c.args.layout.now in let n = c.loop-port.port-index in
    let e : n ≡ first w.connections (length w.shapes) = omega (arith, c.loop-port-test.false, c.loop-port.auto.port-index-end, c.ports-port-items.ensures.all) in
    codes-all w n c.loop-port.codes.items c.ports-port-items.ensures.within e c.loop-port.invariant
