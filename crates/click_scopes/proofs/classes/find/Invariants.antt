use Rattle.std.proofs.Common.{◌≡◌, List}
use Rattle.click_text.specs.declared.syntax.Statement.{Statement}
use Rattle.click_text.specs.Spans.{bytes_at}
use Rattle.click_scopes.specs.Classes.{meaning}
use Rattle.click_scopes.specs.kept.Tables.{IsBelow, Shows}
use Rattle.click_scopes.proofs.classes.find.Given as goal

abbrev pub invariant-loop-place : goal.invariant-loop-place
invariant-loop-place l =
    (visible : List Statement) → Shows l.text l.class_table l.fn.visible_class visible →
    (before : List Statement) × Shows l.text l.class_table l.at before × IsBelow l.at l.limit
    × (meaning l.text visible (bytes_at l.text l.word) ≡ meaning l.text before (bytes_at l.text l.word))

abbrev pub decreases-loop-place : goal.decreases-loop-place
decreases-loop-place l = l.limit
