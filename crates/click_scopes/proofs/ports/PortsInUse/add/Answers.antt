use Rattle.std.proofs.Common.{◌+◌, arith}
use Rattle.click_scopes.proofs.OfConnections.UsedPorts.{used-add}
use Rattle.click_scopes.proofs.ports.PortsInUse.add.Goals as goal

pub returns-then-self-place : goal.returns-then-self-place
returns-then-self-place c = λ ports u.
    let s = c.args.self.now in let p = c.args.port in
    used-add ports s.count p (p + 1) s.ports (let r = c.ranges.port in omega (arith, r)) (let t = c.if-self-place.true in omega (arith, t)) u

pub returns-else-self-place : goal.returns-else-self-place
returns-else-self-place c = λ ports u.
    let s = c.args.self.now in let p = c.args.port in
    used-add ports s.count p s.count s.ports (let r = c.ranges.port in omega (arith, r)) (let t = c.if-self-place.false in omega (arith, t)) u
