use Rattle.click_prog.specs.Passages.{PassageState}
use Rattle.click_prog.proofs.Routers.{enters-so}
use Rattle.click_prog.proofs.pcap.capture_router.CaptureRouter.enter.Goals as goal

pub invariant_of-self-2 : goal.invariant_of-self-2
invariant_of-self-2 c =
    let p = c.self.inside in
    let w : PassageState = record { router = p.router; source = p.source; sink = p.sink } in
    (enters-so w c.enter-entered.new.self c.round-worked.new.self c.as_slice.result.now c.fill.new.self c.enter-entered.result c.round-worked.result c.self.invariant c.as_slice.ensures
    c.enter-entered.ensures c.round-worked.ensures).1
