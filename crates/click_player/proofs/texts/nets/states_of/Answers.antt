use Rattle.std.proofs.Common.{◌≡◌, List, [], ◌∷◌, ◌++◌, map, take, refl, sym}
use Rattle.std.proofs.lemmas.List.{map-append}
use Rattle.click_classes.specs.State.{class}
use Rattle.click_classes.specs.declared.state.State.{State}
use Rattle.click_classes.proofs.OfPorts.PortUses.{first_well}
use Rattle.click_expand.specs.declared.flat.FlatElement.{FlatElement}
use Rattle.click_ports.specs.Net.{AreStatesOf}
use Rattle.click_router.proofs.OfOpenings.FirstStates.{taken}
use Rattle.click_player.proofs.texts.nets.states_of.Goals as goal

push-states : (es : List FlatElement) (states : List State) (e : FlatElement) (s : State) → AreStatesOf es states → e.class ≡ class s → AreStatesOf (es ++ e ∷ []) (states ++ s ∷ [])
push-states es states e s h k = rw (map-append (λ (d : FlatElement). d.class) es (e ∷ []), map-append class states (s ∷ []), h, k) refl

pub loop-element-preserved : goal.loop-element-preserved
loop-element-preserved c =
    let es = c.args.elements.now in let i = c.loop-element.element-index in let e = c.element-item.result in
    let same : e.class ≡ class c.in_ok-state.state = sym (first_well e.class _ c.in_ok-state.state c.in_ok-state.ensures.made.fresh).0 in
    rw (taken es i e c.loop-element-test.true c.element-item.is, c.in_ok-push.ensures)
    (push-states (take i es) c.loop-element.states.items e c.in_ok-state.state c.loop-element.invariant same)
