use Rattle.std.proofs.Common.{◌≡◌, ◌+◌, ◌++◌, ◌∷◌, [], ◌∙◌, ap, sym, length, length-append, append-nil, arith}
use Rattle.std.specs.Vec.Iter.{into_iter_items}
use Rattle.click_engine.specs.Plant.{elements_from}
use Rattle.click_engine.proofs.OfPlants.PlantElements.{elements_more, elements_length, joined_on, no_items}
use Rattle.click_engine.proofs.plant.elements_of.Goals as goal

pub used-requires : goal.used-requires
used-requires c =
    let made : c.len-at.result ≡ length c.loop-state.yielded =
    c.len-at.ensures ∙ c.loop-state.elements.ok.0 ∙ ap length c.loop-state.invariant.made ∙ elements_length c.args.net.now 0 c.loop-state.yielded in
    let rest = c.loop-state.invariant.rest ∙ ap (λ ys. c.loop-state.yielded ++ ys) c.in-Some.ensures.steps.0 in
    omega (arith, made, ap length rest, length-append c.loop-state.yielded (c.in-Some.state ∷ into_iter_items c.next.new.self), c.requires, c.args.states.ok.0)

pub used-requires-in-loop-state : goal.used-requires-in-loop-state
used-requires-in-loop-state c =
    let made : c.len-at.result ≡ length c.loop-state.yielded =
    c.len-at.ensures ∙ c.loop-state.elements.ok.0 ∙ ap length c.loop-state.invariant.made ∙ elements_length c.args.net.now 0 c.loop-state.yielded in
    let rest = c.loop-state.invariant.rest ∙ ap (λ ys. c.loop-state.yielded ++ ys) c.in-Some.ensures.steps.0 in
    omega (arith, made, ap length rest, length-append c.loop-state.yielded (c.in-Some.state ∷ into_iter_items c.next.new.self), c.requires, c.args.states.ok.0)

pub loop-state-preserved : goal.loop-state-preserved
loop-state-preserved c =
    let ss = c.loop-state.yielded in
    let made : c.len-at.result ≡ length ss =
    c.len-at.ensures ∙ c.loop-state.elements.ok.0 ∙ ap length c.loop-state.invariant.made ∙ elements_length c.args.net.now 0 ss in
    let place : c.len-at.result ≡ 0 + length ss = omega (arith, made) in
    record {
      made = c.in_ok-push.ensures.items ∙ rw (c.class.ensures, c.used.ensures.value, c.used-in-loop-state.ensures.value, place, c.loop-state.invariant.made)
          (sym (elements_more c.args.net.now 0 ss c.in-Some.state));
      rest = c.loop-state.invariant.rest ∙ ap (λ ys. ss ++ ys) c.in-Some.ensures.steps.0 ∙ joined_on ss c.in-Some.state (into_iter_items c.next.new.self);
      can_next = tt;
      finite = tt;
    }

pub returns : goal.returns
returns c =
    let none : into_iter_items c.loop-state.state-iterator ≡ [] = no_items _ (omega (arith, c.in-None.ensures.steps.0, c.loop-state.state-iterator.rest.ok.0)) in
    c.loop-state.invariant.made ∙ ap (elements_from c.args.net.now 0) (sym (c.loop-state.invariant.rest ∙ ap (λ ys. c.loop-state.yielded ++ ys) none ∙ append-nil c.loop-state.yielded))
