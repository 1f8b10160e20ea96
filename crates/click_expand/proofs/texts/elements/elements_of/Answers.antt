use Rattle.std.proofs.Common.{sym, ap, arith, length, subst}
use Rattle.click_expand.specs.kept.Buffered.{AreKept}
use Rattle.click_expand.specs.kept.KnownInstances.{AreInstances}
use Rattle.click_expand.proofs.OfTexts.ParameterMeanings.{is-none}
use Rattle.click_expand.proofs.OfTexts.ElementTexts.{here, step-within, step-none, step-made, made-all}
use Rattle.click_expand.proofs.texts.elements.elements_of.Goals as goal

pub element_at-requires-clause-within : goal.element_at-requires-clause-within
element_at-requires-clause-within c =
    step-within c.args.config.now c.args.instances.now.instances.items c.as_slice.result.now c.args.instances.now.primitive_elements.items c.as_slice-place-items.result.now c.loop-place.place-index (record { within = 0; element = 0 })
    c.as_slice.ensures.value c.loop-place.invariant.same c.loop-place-test.true c.requires.used.1 c.requires.used.0 c.requires.used.2

pub returns-in_default : goal.returns-in_default
returns-in_default c primitive_elements known are =
    step-none c.args.config.now c.args.instances.now.instances.items c.as_slice.result.now c.args.instances.now.primitive_elements.items c.as_slice-place-items.result.now c.loop-place.place-index (record { within = 0; element = 0 })
    c.as_slice.ensures.value c.loop-place.invariant.same c.loop-place-test.true known primitive_elements are c.loop-place.buffer.room c.element_at.new.buffer.room c.loop-place.elements.items c.in_ok-element.field-0
    (λ p k l n f a t u. c.in_ok-element.ensures.made p k l n f a t u) (c.loop-place.invariant.made primitive_elements known are) (is-none c.in_ok-element.field-0 c.in_default.not-Some)

pub loop-place-preserved : goal.loop-place-preserved
loop-place-preserved c = record {
  same = c.loop-place.invariant.same;
  kept = subst (λ us. AreKept c.args.config.now us c.element_at.new.buffer) c.as_slice.ensures.value c.in_ok-element.ensures.kept;
  made = λ primitive_elements known are.
      step-made c.args.config.now c.args.instances.now.instances.items c.as_slice.result.now c.args.instances.now.primitive_elements.items c.as_slice-place-items.result.now c.loop-place.place-index (record { within = 0; element = 0 })
      c.as_slice.ensures.value c.loop-place.invariant.same c.loop-place-test.true known primitive_elements are c.loop-place.buffer.room c.element_at.new.buffer.room c.loop-place.elements.items c.in_ok-element.field-0
      (λ p k l n f a t u. c.in_ok-element.ensures.made p k l n f a t u) (c.loop-place.invariant.made primitive_elements known are) c.in-Some.element c.push_flat.new.elements.items c.in-Some.is c.in_ok-push_flat.ensures;
}

pub returns : goal.returns
returns c primitive_elements known are =
    let h = c.loop-place.invariant.made primitive_elements known are in let t = c.loop-place-test.false in let e = ap length c.loop-place.invariant.same in let m = are.as_many_primitive_elements in
    made-all primitive_elements c.loop-place.place-index c.loop-place.elements.items c.loop-place.buffer.room (omega (arith, t, e, m)) h

pub element_at-requires-clause-found : goal.element_at-requires-clause-found
element_at-requires-clause-found c =
    let C = c.args.config.now in let is = c.args.instances.now.instances.items in let places = c.args.instances.now.primitive_elements.items in let used = c.requires.used in (
      places,
      used.1,
      used.0,
      c.loop-place.place-index,
      subst (λ us. AreInstances C us places used.1 used.0) (sym c.as_slice.ensures.value) used.2,
      here C is c.as_slice.result.now places c.as_slice-place-items.result.now c.loop-place.place-index (record { within = 0; element = 0 }) c.as_slice.ensures.value c.loop-place.invariant.same
          c.loop-place-test.true used.1 used.0 used.2,
    )
