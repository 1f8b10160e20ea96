use Rattle.std.proofs.Common.{◌≡◌, ◌++◌, codes, drop}
use Rattle.click_page.specs.Lines.{levels}
use Rattle.click_page.specs.Metrics.{sample_lines}
use Rattle.click_page.proofs.metrics.push_levels.Given as goal

abbrev pub invariant-loop-at : goal.invariant-loop-at
invariant-loop-at l =
    l.text.items ++ sample_lines (codes "click_handler") levels (drop l.at l.samples) (drop l.at l.answers) ≡ l.initial.text.items ++ sample_lines (codes "click_handler") levels l.samples l.answers
