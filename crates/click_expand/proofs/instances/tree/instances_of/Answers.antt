use Rattle.std.proofs.Common.{◌≡◌, ◌<◌, ℕ, List, [], ◌∷◌, ◌++◌, Bool, true, None, sym, ap, ◌∙◌, subst}
use Rattle.click_text.specs.declared.syntax.Config.{Config}
use Rattle.click_expand.specs.Instances.{PrimitiveElement, PrimitiveElementsOf}
use Rattle.click_expand.specs.kept.InstanceWalk.{instance_without_parts}
use Rattle.click_expand.specs.declared.instances.tree.Instance.{Instance}
use Rattle.click_expand.specs.declared.instances.tree.Walk.{Walk}
use Rattle.click_expand.proofs.OfInstances.Frames.{Walking, at-within, walking-first}
use Rattle.click_expand.proofs.OfInstances.WalkSteps.{IsAfter, IsMoved, stepped, inward, left, left-less}
use Rattle.click_expand.proofs.instances.tree.instances_of.Goals as goal
use Rattle.click_expand.proofs.instances.tree.instances_of.Goals.{In_ok-more}

pub loop-more-init : goal.loop-more-init
loop-more-init c primitive_elements n h =
    let config = c.args.config.now in
    let us : instance_without_parts c.len.result None None ∷ [] ≡ c.push_instance.new.instances.items =
    sym (c.in_ok-push_instance.ensures ∙ ap (λ (xs : List Instance). xs ++ c.new_instance.result ∷ []) c.new.ensures.items ∙ ap (λ (u : Instance). u ∷ []) c.new_instance.ensures) in
    subst (λ u. Walking config u c.new-2.result.items 0 primitive_elements n) us
    (subst (λ p. Walking config (instance_without_parts c.len.result None None ∷ []) p 0 primitive_elements n) (sym c.new-2.ensures.items)
    (walking-first config c.len.result primitive_elements n c.len.ensures h))

-- the walk continues
walking-here : (config : Config) (more : Bool) (w : Walk) (primitive_elements : List PrimitiveElement) (n : ℕ) → more ≡ true → IsAfter config more w primitive_elements n → Walking config w.instances.items w.primitive_elements.items w.place primitive_elements n
walking-here config more w primitive_elements n e h = subst (λ m. IsAfter config m w primitive_elements n) e h

pub step-requires-clause-there : goal.step-requires-clause-there
step-requires-clause-there c =
    at-within c.args.config.now c.loop-more.walk.instances.items c.loop-more.walk.primitive_elements.items c.loop-more.walk.place c.requires.counted.0 c.args.paths
    (walking-here c.args.config.now c.loop-more.more c.loop-more.walk c.requires.counted.0 c.args.paths c.loop-more-test.true (c.loop-more.invariant c.requires.counted.0 c.args.paths c.requires.counted.1))

pub step-requires-clause-inward : goal.step-requires-clause-inward
step-requires-clause-inward c =
    inward c.args.config.now c.requires.nested c.args.scopes.now.scopes.items c.requires.scopes.all c.loop-more.walk c.requires.counted.0 c.args.paths
    (walking-here c.args.config.now c.loop-more.more c.loop-more.walk c.requires.counted.0 c.args.paths c.loop-more-test.true (c.loop-more.invariant c.requires.counted.0 c.args.paths c.requires.counted.1))

step-here : (c : In_ok-more) (primitive_elements : List PrimitiveElement) (n : ℕ) → PrimitiveElementsOf c.args.config.now primitive_elements n →
    IsAfter c.args.config.now c.in_ok-more.more c.step.new.walk primitive_elements n × IsMoved c.in_ok-more.more c.loop-more.walk c.step.new.walk
step-here c primitive_elements n h =
    let config = c.args.config.now in
    let w = walking-here config c.loop-more.more c.loop-more.walk primitive_elements n c.loop-more-test.true (c.loop-more.invariant primitive_elements n h) in
    stepped config c.requires.nested c.args.scopes.now.scopes.items c.requires.scopes.all c.loop-more.walk c.step.new.walk primitive_elements n w c.in_ok-more.more c.in_ok-more.ensures

pub loop-more-smaller : goal.loop-more-smaller
loop-more-smaller c =
    let r = step-here c c.requires.counted.0 c.args.paths c.requires.counted.1 in
    subst (λ m. left c.in_ok-more.more c.args.paths c.step.new.walk < left m c.args.paths c.loop-more.walk) (sym c.loop-more-test.true)
    (left-less c.args.config.now c.in_ok-more.more c.args.paths c.loop-more.walk c.step.new.walk c.requires.counted.0 r.0 r.1)

pub loop-more-preserved : goal.loop-more-preserved
loop-more-preserved c primitive_elements n h = (step-here c primitive_elements n h).0

pub returns : goal.returns
returns c primitive_elements n h = subst (λ m. IsAfter c.args.config.now m c.loop-more.walk primitive_elements n) c.loop-more-test.false (c.loop-more.invariant primitive_elements n h)
