use Rattle.std.proofs.Common.{◌∙◌, ap, refl, arith}
use Rattle.click_engine.specs.Adjacency.{run_state_of, wiring_of}
use Rattle.click_engine.specs.RunState.{spent}
use Rattle.click_engine.specs.kept.Transfers.{Pushed}
use Rattle.click_engine.proofs.OfPlants.LastElement.{but_last_length}
use Rattle.click_engine.proofs.OfRuns.Crossings.{pushed_on}
use Rattle.click_engine.proofs.transfers.store_at.Goals as goal

pub returns-then-store-clause-stored : goal.returns-then-store-clause-stored
returns-then-store-clause-stored c = λ h.
    let r = c.args.run_memory.now in
    let short = but_last_length r.elements.items r.blank in
    let net = wiring_of c.args.adjacency.now in let w = run_state_of c.args.run_memory.now in let v = run_state_of c.spend.new.self in
    let p = c.args.packet.now in let far = c.first_target-far.result in
    let acts = c.store.ensures.stored c.if-store.true far.port in
    let step : Pushed net w v c.args.at 0 p far.element 0 0 p =
    pushed_on net w v c.args.at 0 p p far (spent w) (record { first = 0; count = 0 }) _ (omega (arith, c.if-run_memory-eq0.false)) c.first_target-far.ensures.target (omega (arith, short, c.requires.circuit, r.elements.ok.0)) refl
    (record { run_state = c.spend.ensures.spent ∙ ap spent acts.run_state; packet = acts.packet; outputs = acts.outputs }) (omega arith) in
    step.made
