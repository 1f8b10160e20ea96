use Rattle.std.proofs.Common.{sym, ◌∙◌}
use Rattle.click_expand.proofs.OfInstances.OutwardNames.{walked-first, walked-next, walked-all, enclosing-smaller}
use Rattle.click_expand.proofs.instances.flat_names.outward.Goals as goal

pub loop-place-init : goal.loop-place-init
loop-place-init c = walked-first c.args.instances.now c.args.within c.new-way.result.items c.new-way.ensures.items

pub loop-place-smaller : goal.loop-place-smaller
loop-place-smaller c = enclosing-smaller c.args.instances.now c.loop-place.at c.in-Some.place (sym c.enclosing.ensures ∙ c.in-Some.is)

pub loop-place-preserved : goal.loop-place-preserved
loop-place-preserved c =
    walked-next c.args.instances.now c.args.within c.loop-place.at c.loop-place.way.items c.push.new.self.items c.in-Some.place (sym c.enclosing.ensures ∙ c.in-Some.is) c.in_ok-push.ensures.items
    c.loop-place.invariant

pub returns : goal.returns
returns c = walked-all c.args.instances.now c.args.within c.loop-place.at c.loop-place.way.items (sym c.enclosing.ensures ∙ c.in_default.is) c.loop-place.invariant
