use Rattle.std.proofs.Common.{ap}
use Rattle.click_engine.specs.RunState.{RunState}
use Rattle.click_engine.proofs.runs.push_packet.Goals as goal

pub returns-then-store_at-clause-made : goal.returns-then-store_at-clause-made
returns-then-store_at-clause-made c = c.store_at.ensures.stored c.if-store_at.true

pub returns-clause-made : goal.returns-clause-made
returns-clause-made c =
    let same = c.store_at.ensures.other c.if-store_at.false in
    rw (same, ap (λ (w : RunState). w.left) same) at c.push_copied.ensures.made
