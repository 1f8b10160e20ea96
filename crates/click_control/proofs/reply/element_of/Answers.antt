use Rattle.std.proofs.Common.{is_some, sym, ap, ◌∙◌}
use Rattle.click_control.proofs.Words.{before_last-none}
use Rattle.click_control.proofs.reply.element_of.Goals as goal

pub returns-in-None : goal.returns-in-None
returns-in-None c = before_last-none c.args.handler.now (sym c.split.ensures.dot ∙ ap is_some c.in-None.is)
