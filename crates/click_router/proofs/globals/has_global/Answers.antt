use Rattle.std.proofs.Common.{◌∙◌}
use Rattle.click_router.proofs.OfCalls.OwnHandlers.{has}
use Rattle.click_router.proofs.globals.has_global.Goals as goal

pub returns-clause-answered : goal.returns-clause-answered
returns-clause-answered c = λ s. c.is_some.ensures ∙ has c.named.result c.args.name.now c.named.ensures.handler s
