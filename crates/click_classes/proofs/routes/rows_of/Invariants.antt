use Rattle.std.proofs.Common.{◌≡◌, ◌≤◌, ◌++◌, map}
use Rattle.std.specs.List.{All}
use Rattle.click_classes.specs.kept.Rows.{IsReady, entry_of, longest_first}
use Rattle.click_classes.proofs.routes.rows_of.Given as goal

-- the rows for all longer prefixes have been added
abbrev pub invariant-loop-len : goal.invariant-loop-len
invariant-loop-len l = record {
  within : l.len ≤ 33;
  entries : map entry_of l.rows.items ++ longest_first l.len l.entries ≡ longest_first 33 l.entries;
  ready : All IsReady l.rows.items;
}

abbrev pub decreases-loop-len : goal.decreases-loop-len
decreases-loop-len l = l.len
