use Rattle.std.proofs.Common.{◌∙◌, ap, sym, subst, arith}
use Rattle.click_engine.specs.Adjacency.{run_state_of}
use Rattle.click_engine.specs.Plant.{Plant, most_crossings}
use Rattle.click_engine.specs.RunState.{but_last}
use Rattle.click_engine.specs.Rounds.{RoundResult, task as ran}
use Rattle.click_engine.specs.kept.Tasks.{class_of_task, places_of, IsTaskIn}
use Rattle.click_engine.proofs.OfRuns.RoundTasks.{task-by_class}
use Rattle.click_engine.proofs.OfRuns.TaskStarts.{took_one}
use Rattle.click_engine.proofs.plant.Plant.run.Goals as goal

pub returns-clause-plant : goal.returns-clause-plant
returns-clause-plant c =
    let p = c.self.inside in
    let v : Plant = record { net = p.circuit.adjacency; tasks = places_of p.tasks.items; sources = p.sources; sinks = p.sinks; elements = but_last p.circuit.run_memory.elements.items; overruns = p.circuit.run_memory.overruns } in
    let t = c.args.task in
    let is : IsTaskIn p.circuit.adjacency.shapes t = subst (λ ss. IsTaskIn ss t) (sym (ap (λ (w : Plant). w.net.shapes) c.self.view_is)) c.requires in
    let e = task-by_class v t is
    ∙ took_one (class_of_task t.kind) v (run_state_of c.take_one.new.run_memory) (run_state_of c.push_answer.new.run_memory) t.at c.take_one.result c.take_one.new.transfer_stack.last c.take_one.ensures.taken c.if-not-take_one.false
    (c.push_answer.ensures.made most_crossings (omega (arith, c.take_one.ensures.fewer))) in
    sym (ap (λ (r : RoundResult). r.plant) e) ∙ ap (λ (w : Plant). (ran w t.at).plant) c.self.view_is

pub returns-clause-packets : goal.returns-clause-packets
returns-clause-packets c =
    let p = c.self.inside in
    let v : Plant = record { net = p.circuit.adjacency; tasks = places_of p.tasks.items; sources = p.sources; sinks = p.sinks; elements = but_last p.circuit.run_memory.elements.items; overruns = p.circuit.run_memory.overruns } in
    let t = c.args.task in
    let is : IsTaskIn p.circuit.adjacency.shapes t = subst (λ ss. IsTaskIn ss t) (sym (ap (λ (w : Plant). w.net.shapes) c.self.view_is)) c.requires in
    let e = task-by_class v t is
    ∙ took_one (class_of_task t.kind) v (run_state_of c.take_one.new.run_memory) (run_state_of c.push_answer.new.run_memory) t.at c.take_one.result c.take_one.new.transfer_stack.last c.take_one.ensures.taken c.if-not-take_one.false
    (c.push_answer.ensures.made most_crossings (omega (arith, c.take_one.ensures.fewer))) in
    sym (ap (λ (r : RoundResult). r.packets) e) ∙ ap (λ (w : Plant). (ran w t.at).packets) c.self.view_is
