use Rattle.std.proofs.Common.{arith, ap, sym, ◌∙◌}
use Rattle.std.proofs.lemmas.Grind.{common_steps}
use Rattle.click_classes.specs.Entries.{has_prefix}
use Rattle.click_classes.proofs.OfRoutes.RouteTables.{seen_more}
use Rattle.click_classes.proofs.values.entry.read_table.Goals as goal

pub loop-words-preserved : goal.loop-words-preserved
loop-words-preserved c =
    let more = seen_more c.loop-words.seen c.insert.new.self c.loop-words.entries c.in_ok-entry.entry c.loop-words.invariant.seen c.in-Ok.ensures.updates in
    let known = c.loop-words.invariant.seen c.in_ok-entry.entry.prefix in
    record { rest = grind (arith, common_steps, known); seen = λ q. more q ∙ ap (λ es. has_prefix es q) (sym c.in_ok-push.ensures.ok) }
