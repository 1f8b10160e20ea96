use Rattle.std.proofs.Common.{◌≡◌, ◌++◌, codes, drop}
use Rattle.click_page.specs.Lines.{totals}
use Rattle.click_page.specs.Metrics.{sample_lines}
use Rattle.click_page.proofs.metrics.push_totals.Given as goal

abbrev pub invariant-loop-at : goal.invariant-loop-at
invariant-loop-at l =
    l.text.items ++ sample_lines (codes "click_handler_total") totals (drop l.at l.samples) (drop l.at l.answers) ≡ l.initial.text.items ++ sample_lines (codes "click_handler_total") totals l.samples l.answers
