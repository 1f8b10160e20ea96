use Rattle.std.proofs.Common.{◌≡◌, ◌++◌, length, ap, ◌∙◌, arith}
use Rattle.std.proofs.lemmas.List.{nil_from_length, length_push}
use Rattle.click_expand.proofs.OfInstances.OutwardNames.{writing-first, writing-next, written}
use Rattle.click_expand.proofs.instances.flat_names.name_of.Goals as goal

pub loop-step-init : goal.loop-step-init
loop-step-init c =
    writing-first c.args.scopes.now.scopes.items c.args.instances.now c.args.place.within c.in_ok-way.way.items c.in_ok-name.name.items c.in_ok-name.ensures.items c.in_ok-way.ensures

pub loop-step-smaller : goal.loop-step-smaller
loop-step-smaller c =
    let e = ap length c.in-Some.ensures.items ∙ length_push c.pop.new.self.items c.in-Some.step in
    omega (arith, e)

pub loop-step-preserved : goal.loop-step-preserved
loop-step-preserved c =
    writing-next c.args.scopes.now.scopes.items c.args.instances.now c.args.place.within c.loop-step.way.items c.pop.new.self.items c.in-Some.step c.loop-step.name.items c.extend_from_slice.new.self.items
    c.push.new.self.items c.in-Some.ensures.items (c.in_ok-extend_from_slice.ensures.items ∙ ap (λ n. c.loop-step.name.items ++ n) c.local_name.ensures) c.in_ok-push.ensures.items c.loop-step.invariant

pub returns : goal.returns
returns c =
    let h = c.in_default.ensures.cases in
    let none : length c.loop-step.way.items ≡ 0 = omega (arith, h.0, c.loop-step.way.ok.0) in
    written c.args.scopes.now.scopes.items c.args.instances.now c.args.place c.loop-step.way.items c.loop-step.name.items c.extend_from_slice-2.new.self.items (nil_from_length c.loop-step.way.items none)
    c.loop-step.invariant (c.in_ok-extend_from_slice-2.ensures.items ∙ ap (λ n. c.loop-step.name.items ++ n) c.local_name-local.ensures)
