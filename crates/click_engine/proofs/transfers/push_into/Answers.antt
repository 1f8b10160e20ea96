use Rattle.std.proofs.Common.{refl, arith}
use Rattle.click_engine.specs.Adjacency.{wiring_of}
use Rattle.click_engine.proofs.OfPlants.LastElement.{but_last_length}
use Rattle.click_engine.proofs.OfRuns.Crossings.{pushed_none, pushed_on}
use Rattle.click_engine.proofs.transfers.push_into.Goals as goal

pub returns-then-run_memory-eq0-clause-pushed : goal.returns-then-run_memory-eq0-clause-pushed
returns-then-run_memory-eq0-clause-pushed c = λ net at output joined all. pushed_none _ _ _ _ _ _ _ _ _ _ (omega arith) c.overrun.ensures.overrun refl

pub returns-clause-pushed : goal.returns-clause-pushed
returns-clause-pushed c = λ net at output joined all.
    let r = c.args.run_memory.now in
    let short = but_last_length r.elements.items r.blank in
    pushed_on (wiring_of net) _ _ _ _ _ _ _ _ c.act-outputs.result _ (omega arith) joined (omega (arith, short, all, r.elements.ok.0)) c.spend.ensures.spent c.act-outputs.ensures.acts (omega arith)
