use Rattle.std.proofs.Common.{◌≡◌, ◌+◌, ◌-◌, length, ap, sym, arith}
use Rattle.click_ports.specs.Ports.{port_index, used}
use Rattle.click_engine.specs.kept.Tables.{far_of}
use Rattle.click_engine.proofs.OfPlants.ConnectionTable.{port, row_at, unused-past}
use Rattle.click_engine.proofs.adjacency.ends_at.Goals as goal

pub returns-then-at-shapes : goal.returns-then-at-shapes
returns-then-at-shapes c number =
    let net = c.args.net.now in
    sym (ap (far_of (length net.shapes)) (unused-past (length net.shapes) c.args.side net.connections c.args.at number c.shapes.ensures.sound.within (omega (arith, c.if-at-shapes.true, ap length c.shapes.ensures.value))))

pub returns : goal.returns
returns c number =
    let net = c.args.net.now in let cs = net.connections in let s = c.args.side in let at = c.args.at in
    let start : c.first_port-start.result ≡ port_index cs (port at s 0) = c.first_port-start.ensures.value in
    let many : c.first_port-start.result + c.from.result - c.first_port-start.result ≡ used cs at s = omega (arith, c.from.ensures, c.used.ensures.value) in
    rw (many, start) (row_at net c.args.far_ends.now at s number c.requires.table)
