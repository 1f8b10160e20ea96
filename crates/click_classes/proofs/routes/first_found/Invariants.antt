use Rattle.std.proofs.Common.{◌≡◌, drop}
use Rattle.click_classes.specs.kept.Rows.{first_found}
use Rattle.click_classes.proofs.routes.first_found.Given as goal

-- the result depends only on the rows that are left
abbrev pub invariant-loop-row : goal.invariant-loop-row
invariant-loop-row l = first_found (drop l.row-index l.rows) l.word ≡ first_found l.rows l.word
