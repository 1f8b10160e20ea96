use Rattle.std.proofs.Common.{◌≡◌, [], drop}
use Rattle.std.specs.BTreeSet.{contains}
use Rattle.click_classes.specs.declared.values.prefix.Prefix.{Prefix}
use Rattle.click_classes.specs.Entries.{has_prefix, table}
use Rattle.click_classes.proofs.OfRoutes.RouteTables.{prefix_cmp}
use Rattle.click_classes.proofs.values.entry.read_table.Given as goal

abbrev pub invariant-loop-words : goal.invariant-loop-words
invariant-loop-words l = record {
  rest : table l.entries (drop l.words-index l.arguments) ≡ table [] l.arguments;
  seen : (q : Prefix) → contains prefix_cmp l.seen q ≡ has_prefix l.entries q;
}
