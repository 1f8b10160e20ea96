use Rattle.std.proofs.Common.{◌≡◌, ◌<◌, length, get_or, ◌∙◌, sym, subst, arith}
use Rattle.click_classes.specs.declared.ports.Side.TheVariants.{Input}
use Rattle.click_ports.specs.declared.port.Port.{Port}
use Rattle.click_ports.specs.Breaches.{IsFirstBreach}
use Rattle.click_ports.specs.Ports.{uses, port_index}
use Rattle.click_ports.proofs.InnerLinks.{read-place}
use Rattle.click_ports.proofs.FirstBreach.{first-unused, next-port, all-ports, uses-read}
use Rattle.click_ports.proofs.breaches.first_unused.Goals as goal

none : Port
none = record { element = 0; side = Input; number = 0 }

pub returns-then-len-eq0 : goal.returns-then-len-eq0
unfolding none
returns-then-len-eq0 c =
    let w = c.args.layout.now in let cs = w.connections in let ports = c.ports-port-items.result.now in let n = c.loop-number.number in
    let p : Port = get_or ports n none in
    let read = read-place cs ports n none c.ports-port-items.ensures.right c.loop-number-test.true in
    let l : n < length c.args.ends.now = omega (arith, c.loop-number-test.true, c.ports-port-items.ensures.all, c.requires.ends.all) in
    let is : c.len.result ≡ uses cs p = uses-read w c.args.ends.now p n c.len.result c.index-ends-number.result c.requires.ends read.0 read.1 l c.index-ends-number.is c.len.ensures in
    subst (IsFirstBreach w.shapes cs) (sym c.fault_at.ensures) (first-unused w.shapes cs c.requires.counted p read.0 (sym is ∙ c.if-len-eq0.true) (λ q h b. c.loop-number.invariant q h (subst (λ x. port_index cs q < x) read.1 b)))

pub loop-number-preserved : goal.loop-number-preserved
unfolding none
loop-number-preserved c =
    let w = c.args.layout.now in let cs = w.connections in let ports = c.ports-port-items.result.now in let n = c.loop-number.number in
    let p : Port = get_or ports n none in
    let read = read-place cs ports n none c.ports-port-items.ensures.right c.loop-number-test.true in
    let l : n < length c.args.ends.now = omega (arith, c.loop-number-test.true, c.ports-port-items.ensures.all, c.requires.ends.all) in
    let is : c.len.result ≡ uses cs p = uses-read w c.args.ends.now p n c.len.result c.index-ends-number.result c.requires.ends read.0 read.1 l c.index-ends-number.is c.len.ensures in
    let some : c.len.result ≡ 0 → ⊥ = c.if-len-eq0.false in
    next-port cs p n (λ q. 0 < uses cs q) read.0 read.1 (omega (arith, is, some)) c.loop-number.invariant

pub returns : goal.returns
returns c =
    let w = c.args.layout.now in
    all-ports w c.loop-number.number (λ q. 0 < uses w.connections q) c.ports-port-items.ensures.within (omega (arith, c.loop-number-test.false, c.ports-port-items.ensures.all)) c.loop-number.invariant
