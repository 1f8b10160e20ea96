use Rattle.std.proofs.Common.{◌≡◌, ◌+◌, ◌<◌, max, take, set, get_or, length, sym, ap, ◌∙◌, arith, subst}
use Rattle.std.proofs.lemmas.List.{take_more, get_or_default}
use Rattle.click_expand.specs.declared.flat.Connection.{Connection}
use Rattle.click_ports.specs.declared.port.Port.{Port}
use Rattle.click_ports.specs.kept.Used.{AreUsed}
use Rattle.click_ports.specs.Ports.{joined_port}
use Rattle.click_ports.proofs.PortUses.{used-more, within-end}
use Rattle.click_ports.proofs.sizes.used.Goals as goal

pub loop-connection-preserved : goal.loop-connection-preserved
loop-connection-preserved c =
    let cs = c.args.connections.now in let i = c.loop-connection.connection-index in let counts = c.loop-connection.counts.items in let s = c.args.side in
    let d : Connection = record { from = 0; out_port = 0; to = 0; in_port = 0 } in
    let it : Connection = get_or cs i d in
    let port = c.joined_port-port.result in
    let is : port ≡ joined_port s it = c.joined_port-port.ensures.is in
    let lt : i < length cs = c.loop-connection-test.true in
    let at : (joined_port s it).element < c.args.elements = within-end c.args.elements it s (c.requires i d lt) in
    let there : port.element < c.args.elements = subst (λ (p : Port). p.element < c.args.elements) (sym is) at in
    let known = c.loop-connection.invariant in
    let read : c.index.result.now ≡ get_or counts port.element 0 =
    c.index.ensures ∙ get_or_default counts port.element c.index.result.now 0 (omega (arith, there, known.all)) in
    subst (λ xs. AreUsed xs c.args.elements s (set counts port.element c.max-count.result)) (sym (take_more cs i d lt))
    (used-more (take i cs) it s c.args.elements counts port.element c.max-count.result
    (ap (λ (p : Port). p.element) is)
    (c.max-count.ensures ∙ ap (λ n. max n (port.number + 1)) read ∙ ap (λ (p : Port). max (get_or counts port.element 0) (p.number + 1)) is)
    there
    (subst (λ (p : Port). p.number < 256) is c.joined_port-port.ensures.small)
    known)
