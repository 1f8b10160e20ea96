use Rattle.std.proofs.Common.{◌≡◌, length, get_or, sym, subst, arith}
use Rattle.click_classes.specs.declared.ports.Side.TheVariants.{Input}
use Rattle.click_ports.specs.declared.port.Port.{Port}
use Rattle.click_ports.specs.Ports.{first}
use Rattle.click_ports.proofs.PortUses.{has-within}
use Rattle.click_ports.proofs.InnerLinks.{AreRowsBelow, rows-none, rows-more, rows-all, read-place}
use Rattle.click_ports.proofs.internal_links.all_internal_links.Goals as goal

pub internal_links-requires-clause-within : goal.internal_links-requires-clause-within
internal_links-requires-clause-within c =
    let w = c.args.layout.now in let ports = c.ports-port-items.result.now in let i = c.loop-port.port-index in
    let d : Port = record { element = 0; side = Input; number = 0 } in
    has-within (length w.shapes) w.connections (get_or ports i d) c.ports-port-items.ensures.within (read-place w.connections ports i d c.ports-port-items.ensures.right c.loop-port-test.true).0

pub loop-port-init : goal.loop-port-init
loop-port-init c = subst (AreRowsBelow c.args.layout.now 0) (sym c.in_ok-rows.ensures.items) (rows-none c.args.layout.now)

pub loop-port-preserved : goal.loop-port-preserved
loop-port-preserved c =
    let w = c.args.layout.now in let ports = c.ports-port-items.result.now in let i = c.loop-port.port-index in
    let d : Port = record { element = 0; side = Input; number = 0 } in
    let read = read-place w.connections ports i d c.ports-port-items.ensures.right c.loop-port-test.true in
    rows-more w (get_or ports i d) i c.loop-port.rows.items c.push.new.self.items c.in_ok-internal_links.field-0 read.0 read.1 c.in_ok-internal_links.ensures c.in_ok-push.ensures.items c.loop-port.invariant

pub returns : goal.returns
returns c =
    let w = c.args.layout.now in let n = c.loop-port.port-index in
    let e : n ≡ first w.connections (length w.shapes) = omega (arith, c.loop-port-test.false, c.loop-port.auto.port-index-end, c.ports-port-items.ensures.all) in
    rows-all w n c.loop-port.rows.items c.ports-port-items.ensures.within e c.loop-port.invariant
