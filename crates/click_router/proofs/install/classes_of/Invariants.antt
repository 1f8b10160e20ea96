use Rattle.std.proofs.Common.{◌≡◌, map, take}
use Rattle.click_classes.specs.State.{class}
use Rattle.click_engine.specs.declared.run_state.Element.{Element}
use Rattle.click_router.proofs.install.classes_of.Given as goal

abbrev pub invariant-loop-at : goal.invariant-loop-at
invariant-loop-at l = l.classes.items ≡ map (λ (e : Element). class e.state) (take l.at l.plant.elements)
