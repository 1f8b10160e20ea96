use Rattle.std.proofs.Common.{◌≡◌, ◌<◌, length, get_or, true, false, ap, ◌∙◌, sym, subst, arith}
use Rattle.click_classes.specs.declared.ports.Side.TheVariants.{Input}
use Rattle.click_ports.specs.declared.port.Port.{Port}
use Rattle.click_ports.specs.Kinds.{IsSingle}
use Rattle.click_ports.specs.Breaches.{IsFirstBreach}
use Rattle.click_ports.specs.Ports.{uses, port_index}
use Rattle.click_ports.proofs.InnerLinks.{read-place}
use Rattle.click_ports.proofs.FirstBreach.{first-twice, all-single, next-port, all-ports, uses-read, single-is, is-single}
use Rattle.click_ports.proofs.breaches.first_twice.Goals as goal
use Rattle.click_ports.proofs.breaches.first_twice.Goals.{else-is_single-via-then-is_single+else-len-gt1, else-is_single-via-else-is_single}

none : Port
none = record { element = 0; side = Input; number = 0 }

pub returns-then-len-gt1 : goal.returns-then-len-gt1
unfolding none
returns-then-len-gt1 c =
    let w = c.args.layout.now in let cs = w.connections in let ports = c.ports-port-items.result.now in let n = c.loop-number.number in
    let p : Port = get_or ports n none in
    let read = read-place cs ports n none c.ports-port-items.ensures.right c.loop-number-test.true in
    let l : n < length c.args.ends.now = omega (arith, c.loop-number-test.true, c.ports-port-items.ensures.all, c.requires.ends.all) in
    let is : c.len.result ≡ uses cs p = uses-read w c.args.ends.now p n c.len.result c.index-ends-number.result c.requires.ends read.0 read.1 l c.index-ends-number.is c.len.ensures in
    let one : IsSingle w.shapes cs p = single-is w c.args.pulls.now p (get_or c.args.pulls.now n false) c.requires.pulls read.0 (ap (λ x. get_or c.args.pulls.now x false) read.1) (sym c.is_single.ensures ∙ c.if-is_single.true) in
    subst (IsFirstBreach w.shapes cs) (sym c.fault_at.ensures) (first-twice w.shapes cs c.requires.counted c.requires.connected c.requires.unmixed p read.0 one (omega (arith, is, c.if-len-gt1.true))
    (λ q h b. c.loop-number.invariant q h (subst (λ x. port_index cs q < x) read.1 b)))

pub loop-number-preserved : goal.loop-number-preserved
unfolding none
loop-number-preserved c =
    let w = c.args.layout.now in let cs = w.connections in let ports = c.ports-port-items.result.now in let n = c.loop-number.number in
    let p : Port = get_or ports n none in
    let read = read-place cs ports n none c.ports-port-items.ensures.right c.loop-number-test.true in
    let l : n < length c.args.ends.now = omega (arith, c.loop-number-test.true, c.ports-port-items.ensures.all, c.requires.ends.all) in
    let here : IsSingle w.shapes cs p → 1 < uses cs p → ⊥ = elim c.else-is_single.branch [
      | else-is_single-via-then-is_single+else-len-gt1 v ↦ (λ s m.
          let is : v.len.result ≡ uses cs p = uses-read w c.args.ends.now p n v.len.result v.index-ends-number.result c.requires.ends read.0 read.1 l v.index-ends-number.is v.len.ensures in
          omega (arith, is, m, v.if-len-gt1.false))
      | else-is_single-via-else-is_single v ↦ (λ s m.
          let t : false ≡ true = sym v.if-is_single.false ∙ c.is_single.ensures ∙ is-single w c.args.pulls.now p (get_or c.args.pulls.now n false) c.requires.pulls read.0 (ap (λ x. get_or c.args.pulls.now x false) read.1) s in cc t)
    ] in
    next-port cs p n (λ q. IsSingle w.shapes cs q → 1 < uses cs q → ⊥) read.0 read.1 here c.loop-number.invariant

pub returns : goal.returns
returns c =
    let w = c.args.layout.now in
    all-single w.shapes w.connections c.requires.counted c.requires.connected
    (all-ports w c.loop-number.number (λ q. IsSingle w.shapes w.connections q → 1 < uses w.connections q → ⊥) c.ports-port-items.ensures.within
    (omega (arith, c.loop-number-test.false, c.ports-port-items.ensures.all)) c.loop-number.invariant)
