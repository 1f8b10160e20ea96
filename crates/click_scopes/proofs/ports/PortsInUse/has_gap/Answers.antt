use Rattle.std.proofs.Common.{refl, arith}
use Rattle.click_scopes.proofs.OfConnections.UsedPorts.{gap-found, gap-none}
use Rattle.click_scopes.proofs.ports.PortsInUse.has_gap.Goals as goal

pub returns : goal.returns
returns c = λ ports u.
    let s = c.args.self.now in let t = c.loop-place-test.false in
    ((λ h. absurd (cc h)), (λ g. absurd (gap-none ports s.count s.ports u s.few (λ k l. c.loop-place.invariant k (omega (arith, l, t))) g)))

pub returns-then-not-self-place : goal.returns-then-not-self-place
returns-then-not-self-place c = λ ports u.
    let s = c.args.self.now in
    ((λ h. gap-found ports s.count c.loop-place.place s.ports u s.few c.loop-place-test.true c.if-not-self-place.true), (λ g. refl))
