use Rattle.std.proofs.Common.{◌∙◌}
use Rattle.click_workers.proofs.linked.settle_one.Goals as goal

pub returns-clause-others : goal.returns-clause-others
returns-clause-others g c = λ other ring differ has. c.left_of-left.ensures.others other ring (λ same. differ (same ∙ c.as_slice.ensures)) has
