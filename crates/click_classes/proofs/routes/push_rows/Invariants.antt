use Rattle.std.proofs.Common.{◌≡◌, ◌++◌, map, drop}
use Rattle.std.specs.List.{All, filter}
use Rattle.click_classes.specs.kept.Rows.{has_len, IsReady, entry_of}
use Rattle.click_classes.proofs.routes.push_rows.Given as goal

-- the rows so far, and the entries that are left
abbrev pub invariant-loop-entry : goal.invariant-loop-entry
invariant-loop-entry l = record {
  entries : map entry_of l.rows.items ++ filter (has_len l.len) (drop l.entry-index l.entries) ≡ map entry_of l.fn.rows.items ++ filter (has_len l.len) l.entries;
  ready : All IsReady l.rows.items;
}
