use Rattle.std.proofs.Common.{◌≡◌, inl, inr, length, true, false, ap, arith}
use Rattle.click_ports.specs.declared.port.Port.{Port}
use Rattle.click_ports.proofs.ResolvedNet.{has-not, pull-read}
use Rattle.click_ports.proofs.net.Net.pulls.Goals as goal
use Rattle.click_ports.proofs.net.Net.pulls.Goals.{then-element-shapes-via-then-element-shapes, then-element-shapes-via-else-element-shapes+then-port-used}

pub returns-then-element-shapes-clause-there : goal.returns-then-element-shapes-clause-there
returns-then-element-shapes-clause-there c =
    let p : Port = record { element = c.args.element; side = c.args.side; number = c.args.port } in (
      (λ t. absurd (let u : false ≡ true = t in cc u)),
      (λ h. absurd (elim c.then-element-shapes.branch [
        | then-element-shapes-via-then-element-shapes v ↦
            has-not c.args.self.now p (length c.shapes.result.now) 0 c.shapes.ensures.sound (ap length c.shapes.ensures.value) (inl v.if-element-shapes.true) h
        | then-element-shapes-via-else-element-shapes+then-port-used v ↦
            has-not c.args.self.now p (length c.shapes.result.now) v.used.result c.shapes.ensures.sound (ap length c.shapes.ensures.value) (inr (v.used.ensures.value, v.if-port-used.true)) h
      ])),
    )

pub returns-clause-pull : goal.returns-clause-pull
returns-clause-pull c =
    let i = c.self.inside in
    let p : Port = record { element = c.args.element; side = c.args.side; number = c.args.port } in
    pull-read c.args.self.now i.element_names i.layout i.pulling.items p c.number-number.result c.index.result.now c.self.view_is c.self.invariant
    (omega (arith, c.if-port-used.false, c.used.ensures.value)) c.number-number.ensures.value (omega (arith, c.number-number.ensures.within, c.self.invariant.pulls.all)) c.index.ensures
