use Rattle.std.proofs.Common.{◌≡◌, ℕ, ◌<◌, ◌≤◌, ◌∙◌, arith}
use Rattle.std.proofs.lemmas.List.{get_or_default}
use Rattle.click_classes.specs.declared.ports.Side.TheVariants.{Input, Output}
use Rattle.click_ports.specs.Ports.{used}
use Rattle.click_ports.proofs.PortNumbers.{numbered-made}
use Rattle.click_ports.proofs.numbering.numbered.Goals as goal

pub loop-element-preserved : goal.loop-element-preserved
loop-element-preserved c =
    let cs = c.args.connections.now in let e = c.loop-element.element in
    let known = c.loop-element.invariant in
    let ins = c.in_ok-inputs.ensures in let outs = c.in_ok-outputs.ensures in
    let lt : e < c.args.elements = c.loop-element-test.true in
    let i : ℕ = c.index.result.now in let o : ℕ = c.index-in-loop-element.result.now in
    let read_in : i ≡ used cs e Input =
    c.index.ensures ∙ get_or_default c.in_ok-inputs.inputs.items e i 0 (omega (arith, lt, ins.all)) ∙ ins.right e lt in
    let read_out : o ≡ used cs e Output =
    c.index-in-loop-element.ensures ∙ get_or_default c.in_ok-outputs.outputs.items e o 0 (omega (arith, lt, outs.all)) ∙ outs.right e lt in
    let small_in : i ≤ 256 = omega (arith, read_in, ins.right e lt, ins.small e lt) in
    let small_out : o ≤ 256 = omega (arith, read_out, outs.right e lt, outs.small e lt) in
    numbered-made cs e i o c.len.result c.loop-element.blocks.items c.push.new.self.items c.loop-element.ports.items c.push_ports.new.ports.items
    c.push_ports-in-loop-element.new.ports.items known read_in read_out small_in small_out (c.len.ensures ∙ c.loop-element.ports.ok.0) c.in_ok-push.ensures.items c.in_ok-push_ports.ensures c.in_ok-push_ports-2.ensures
