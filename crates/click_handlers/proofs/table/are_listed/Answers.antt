use Rattle.std.proofs.Common.{refl}
use Rattle.click_base.specs.declared.class.Class.TheVariants as is
use Rattle.click_handlers.specs.Names.{handled}
use Rattle.click_handlers.proofs.RowLists.{never, behind_class, not_behind_class}
use Rattle.click_handlers.proofs.table.are_listed.Goals as goal

pub returns-in-None : goal.returns-in-None
returns-in-None g c = never _ (λ e. c.in-None.ensures.none _ (not_behind_class g.R.HandlerRow.handler (λ n. n.now) g.R.HandlerRow.names handled c.loop-class.rest.now c.names_of.result.now c.loop-class.class-index is.Queue _ c.loop-class-test.true refl c.names_of.ensures (c.loop-class.invariant.1 e)))

pub loop-class-preserved : goal.loop-class-preserved
loop-class-preserved g c = behind_class g.R.HandlerRow.handler (λ n. n.now) g.R.HandlerRow.names handled c.loop-class.rest.now c.in-Some.others.now c.names_of.result.now c.loop-class.class-index is.Queue _ _ c.loop-class-test.true refl c.names_of.ensures c.in-Some.ensures.some c.loop-class.invariant
