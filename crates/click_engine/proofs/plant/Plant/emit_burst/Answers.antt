use Rattle.std.proofs.Common.{length, ◌+◌, ◌-◌, ◌∙◌, ap, sym, arith}
use Rattle.click_classes.specs.Acts.{burst_of}
use Rattle.click_ports.specs.Net.{Net}
use Rattle.click_engine.specs.Plant.{Plant}
use Rattle.click_engine.specs.Rounds.{RoundResult, bursts, state_at}
use Rattle.click_engine.proofs.OfRuns.RoundTasks.{burst_more, burst_net, burst_over, bursts-zero}
use Rattle.click_engine.proofs.plant.Plant.emit_burst.Goals as goal

pub emit-requires : goal.emit-requires
emit-requires c = omega (arith, c.requires, ap (λ (n : Net). length n.shapes) c.loop-packet.invariant.net)

pub returns-then-not-emit-clause-plant : goal.returns-then-not-emit-clause-plant
returns-then-not-emit-clause-plant c =
    let is = c.burst-most.ensures ∙ ap (λ (w : Plant). burst_of (state_at w c.args.at)) c.self.view_is in
    let n = c.burst-most.result in let i = c.loop-packet._packet in
    let e = burst_over (n - i) (n - (i + 1)) c.args.at c.loop-packet.self c.emit.new.self c.emit.result (omega arith) c.emit.ensures c.if-not-emit.true in
    sym (ap (λ (w : RoundResult). w.plant) e) ∙ c.loop-packet.invariant.plant ∙ ap (λ m. (bursts m c.args.at c.args.self.now).plant) is

pub returns-then-not-emit-clause-packets : goal.returns-then-not-emit-clause-packets
returns-then-not-emit-clause-packets c =
    let is = c.burst-most.ensures ∙ ap (λ (w : Plant). burst_of (state_at w c.args.at)) c.self.view_is in
    let n = c.burst-most.result in let i = c.loop-packet._packet in
    let e = burst_over (n - i) (n - (i + 1)) c.args.at c.loop-packet.self c.emit.new.self c.emit.result (omega arith) c.emit.ensures c.if-not-emit.true in
    omega (arith, ap (λ (w : RoundResult). w.packets) e, c.loop-packet.invariant.packets, ap (λ m. (bursts m c.args.at c.args.self.now).packets) is)

pub loop-packet-preserved : goal.loop-packet-preserved
loop-packet-preserved c =
    let n = c.burst-most.result in let i = c.loop-packet._packet in
    let e = burst_more (n - i) (n - (i + 1)) c.args.at c.loop-packet.self c.emit.new.self c.emit.result (omega arith) c.emit.ensures c.if-not-emit.false in
    record {
      plant = sym (ap (λ (w : RoundResult). w.plant) e) ∙ c.loop-packet.invariant.plant;
      packets = omega (arith, ap (λ (w : RoundResult). w.packets) e, c.loop-packet.invariant.packets);
      few = omega (arith, c.loop-packet.invariant.few);
      net = burst_net c.args.at c.loop-packet.self c.emit.new.self c.emit.result _ c.emit.ensures ∙ c.loop-packet.invariant.net;
    }

pub returns-clause-plant : goal.returns-clause-plant
returns-clause-plant c =
    let is = c.burst-most.ensures ∙ ap (λ (w : Plant). burst_of (state_at w c.args.at)) c.self.view_is in
    let e = bursts-zero (c.burst-most.result - c.loop-packet._packet) c.args.at c.loop-packet.self (omega arith) in
    sym (ap (λ (w : RoundResult). w.plant) e) ∙ c.loop-packet.invariant.plant ∙ ap (λ m. (bursts m c.args.at c.args.self.now).plant) is

pub returns-clause-packets : goal.returns-clause-packets
returns-clause-packets c =
    let is = c.burst-most.ensures ∙ ap (λ (w : Plant). burst_of (state_at w c.args.at)) c.self.view_is in
    let e = bursts-zero (c.burst-most.result - c.loop-packet._packet) c.args.at c.loop-packet.self (omega arith) in
    omega (arith, ap (λ (w : RoundResult). w.packets) e, c.loop-packet.invariant.packets, ap (λ m. (bursts m c.args.at c.args.self.now).packets) is)
