use Rattle.std.proofs.Common.{◌^◌, ap, ◌∙◌, subst}
use Rattle.click_classes.specs.kept.Rows.{longest_first}
use Rattle.click_classes.specs.kept.Ranges.{HaveEntries}
use Rattle.click_classes.proofs.OfRoutes.EntryOrder.{rows_route}
use Rattle.click_classes.proofs.routes.Routes.of.Goals as goal

pub invariant_of-result : goal.invariant_of-result
invariant_of-result c = record {
  rows = rows_route c.in_ok-rows.rows.items c.args.entries c.in_ok-rows.ensures.ready c.requires (c.in_ok-rows.ensures.entries ∙ ap (longest_first 33) c.as_slice.ensures);
  ranges = c.in_ok-ranges.ensures.ranges;
  entries = λ some. subst (λ rs. HaveEntries rs (2 ^ 32) c.in_ok-ranges.ranges.items) c.as_slice-2.ensures.value (c.in_ok-ranges.ensures.entries some);
}
