use Rattle.std.proofs.Common.{ℕ, List, ◌∷◌, ◌++◌, [], ap, ◌∙◌, sym}
use Rattle.click_ports.proofs.FarEnds.{replicate-push}
use Rattle.click_ports.proofs.ends.empty_rows.Goals as goal

pub loop-row-preserved : goal.loop-row-preserved
loop-row-preserved c =
    c.in_ok-push.ensures.items ∙ ap (λ (r : List ℕ). c.loop-row.rows.items ++ r ∷ []) c.new.ensures ∙ ap (λ (rs : List (List ℕ)). rs ++ [] ∷ []) c.loop-row.invariant ∙ sym (replicate-push c.loop-row._row [])
