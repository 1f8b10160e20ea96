use Rattle.std.proofs.Common.{refl, arith}
use Rattle.click_engine.proofs.OfPlants.LastElement.{but_last_length}
use Rattle.click_engine.proofs.OfRuns.Crossings.{reached_none, reached_on}
use Rattle.click_engine.proofs.transfers.pull_first.Goals as goal

pub returns-then-run_memory-eq0-clause-reached : goal.returns-then-run_memory-eq0-clause-reached
returns-then-run_memory-eq0-clause-reached c = reached_none _ _ _ _ _ _ _ (omega arith) c.overrun.ensures.overrun refl refl

pub returns-clause-reached : goal.returns-clause-reached
returns-clause-reached c =
    let r = c.args.run_memory.now in
    let short = but_last_length r.elements.items r.blank in
    reached_on _ _ _ _ _ _ c.reach.result c.first_source.result _ _ (omega arith) c.first_source.ensures.source (omega (arith, short, c.requires.circuit, r.elements.ok.0)) c.spend.ensures.spent c.reach.ensures.reaches (omega arith)
