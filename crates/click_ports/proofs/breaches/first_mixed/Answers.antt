use Rattle.std.proofs.Common.{◌≡◌, ◌<◌, length, get_or, true, false, ◌∙◌, sym, subst, arith}
use Rattle.click_classes.specs.declared.ports.Side.TheVariants.{Input}
use Rattle.click_ports.specs.declared.port.Port.{Port}
use Rattle.click_ports.specs.Kinds.{IsMixed}
use Rattle.click_ports.specs.Breaches.{IsFirstBreach}
use Rattle.click_ports.specs.Ports.{port_index, first}
use Rattle.click_ports.proofs.InnerLinks.{read-place}
use Rattle.click_ports.proofs.FirstBreach.{first-mixed, next-port, all-ports, mark-read}
use Rattle.click_ports.proofs.breaches.first_mixed.Goals as goal
use Rattle.click_ports.proofs.breaches.first_mixed.Goals.{else-index-via-then-index+else-index-2, else-index-via-else-index}

none : Port
none = record { element = 0; side = Input; number = 0 }

pub returns-then-index-2 : goal.returns-then-index-2
unfolding none
returns-then-index-2 c =
    let w = c.args.layout.now in let cs = w.connections in let ports = c.ports-port-items.result.now in let n = c.loop-number.number in
    let p : Port = get_or ports n none in
    let read = read-place cs ports n none c.ports-port-items.ensures.right c.loop-number-test.true in
    let l : n < first cs (length w.shapes) = omega (arith, c.loop-number-test.true, c.ports-port-items.ensures.all) in
    let lp : n < length c.args.kinds.now.pushes.items = omega (arith, l, c.requires.pushes.all) in
    let lq : n < length c.args.kinds.now.pulls.items = omega (arith, l, c.requires.pulls.all) in
    let push = (c.requires.pushes.right p read.0).0 (mark-read c.args.kinds.now.pushes.items n (port_index cs p) c.index.result.now read.1 lp c.index.ensures ∙ c.if-index.true) in
    let pull = (c.requires.pulls.right p read.0).0 (mark-read c.args.kinds.now.pulls.items n (port_index cs p) c.index-then-index.result.now read.1 lq c.index-then-index.ensures ∙ c.if-index-2.true) in
    subst (IsFirstBreach w.shapes cs) (sym c.fault_at.ensures) (first-mixed w.shapes cs c.requires.counted c.requires.connected p read.0 (push, pull) (λ q h b. c.loop-number.invariant q h (subst (λ x. port_index cs q < x) read.1 b)))

pub loop-number-preserved : goal.loop-number-preserved
unfolding none
loop-number-preserved c =
    let w = c.args.layout.now in let cs = w.connections in let ports = c.ports-port-items.result.now in let n = c.loop-number.number in
    let p : Port = get_or ports n none in
    let read = read-place cs ports n none c.ports-port-items.ensures.right c.loop-number-test.true in
    let l : n < first cs (length w.shapes) = omega (arith, c.loop-number-test.true, c.ports-port-items.ensures.all) in
    let lp : n < length c.args.kinds.now.pushes.items = omega (arith, l, c.requires.pushes.all) in
    let lq : n < length c.args.kinds.now.pulls.items = omega (arith, l, c.requires.pulls.all) in
    let here : IsMixed w.shapes cs p → ⊥ = elim c.else-index.branch [
      | else-index-via-then-index+else-index-2 v ↦ (λ m.
          let t : false ≡ true = sym (mark-read c.args.kinds.now.pulls.items n (port_index cs p) v.index-then-index.result.now read.1 lq v.index-then-index.ensures ∙ v.if-index-2.false) ∙ (c.requires.pulls.right p read.0).1 m.1 in cc t)
      | else-index-via-else-index v ↦ (λ m.
          let t : false ≡ true = sym (mark-read c.args.kinds.now.pushes.items n (port_index cs p) c.index.result.now read.1 lp c.index.ensures ∙ v.if-index.false) ∙ (c.requires.pushes.right p read.0).1 m.0 in cc t)
    ] in
    next-port cs p n (λ q. IsMixed w.shapes cs q → ⊥) read.0 read.1 here c.loop-number.invariant

pub returns : goal.returns
returns c =
    let w = c.args.layout.now in
    all-ports w c.loop-number.number (λ q. IsMixed w.shapes w.connections q → ⊥) c.ports-port-items.ensures.within (omega (arith, c.loop-number-test.false, c.ports-port-items.ensures.all)) c.loop-number.invariant
