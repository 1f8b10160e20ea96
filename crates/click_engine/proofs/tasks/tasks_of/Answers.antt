use Rattle.std.proofs.Common.{◌+◌, ◌<◌, ◌∙◌, [], ap, refl, sym, subst, take, length, arith}
use Rattle.std.proofs.lemmas.Bool.{false≢true}
use Rattle.std.proofs.lemmas.List.{take_all}
use Rattle.std.proofs.lemmas.List.Elements.{All-push}
use Rattle.click_engine.specs.Tasks.{AreTasks, over}
use Rattle.click_engine.specs.kept.Tasks.{places_of, IsTaskIn}
use Rattle.click_engine.proofs.OfPlants.TaskPlaces.{next_task, next_idle, places-push, is_task_in}
use Rattle.click_engine.proofs.tasks.tasks_of.Goals as goal

pub loop-at-init : goal.loop-at-init
loop-at-init c = record {
  places = subst (λ ts. AreTasks c.args.net.now 0 [] (places_of ts)) (sym c.new-tasks.ensures.items) (over 0);
  classes = λ k d h. absurd (let none = ap length c.new-tasks.ensures.items in omega (arith, h, none));
}

pub loop-at-preserved-in_default : goal.loop-at-preserved-in_default
loop-at-preserved-in_default c =
    let end = ap length c.shapes-at-end.ensures.value in let len = ap length c.shapes.ensures.value in
    record {
      places = next_idle c.args.net.now c.loop-at.at c.args.net.now.shapes c.shapes.result.now _ (places_of c.loop-at.tasks.items) c.shapes.ensures.value
          (omega (arith, c.loop-at-test.true, end, len)) c.in_default.ensures c.loop-at.invariant.places;
      classes = c.loop-at.invariant.classes;
    }

pub loop-at-preserved : goal.loop-at-preserved
loop-at-preserved c =
    let end = ap length c.shapes-at-end.ensures.value in let len = ap length c.shapes.ensures.value in
    let inside : c.loop-at.at < length c.shapes.result.now = omega (arith, c.loop-at-test.true, end, len) in
    record {
      places = subst (λ ps. AreTasks c.args.net.now 0 (take (c.loop-at.at + 1) c.args.net.now.shapes) ps)
          (sym (ap places_of c.in_ok-push.ensures.items ∙ places-push c.loop-at.tasks.items _))
          (next_task c.args.net.now c.loop-at.at c.args.net.now.shapes c.shapes.result.now _ (places_of c.loop-at.tasks.items) c.shapes.ensures.value
          inside c.in-Some.ensures.0 c.loop-at.invariant.places);
      classes = rw c.in_ok-push.ensures.items (All-push (IsTaskIn c.args.net.now.shapes) c.loop-at.tasks.items _ c.loop-at.invariant.classes
          (is_task_in c.args.net.now.shapes c.shapes.result.now c.loop-at.at _ c.in-Some.kind c.shapes.ensures.value inside c.in-Some.ensures.1));
    }

pub returns-clause-places : goal.returns-clause-places
returns-clause-places c =
    let end = ap length c.shapes-at-end.ensures.value in
    subst (λ ss. AreTasks c.args.net.now 0 ss (places_of c.loop-at.tasks.items)) (take_all c.loop-at.at c.args.net.now.shapes (omega (arith, c.loop-at-test.false, end))) c.loop-at.invariant.places
