use Rattle.std.proofs.Common.{◌≡◌, take}
use Rattle.std.specs.List.{flat_map}
use Rattle.click_page.specs.Metrics.{samples_of}
use Rattle.click_page.proofs.measuring.survey_of.Given as goal

abbrev pub invariant-loop-element : goal.invariant-loop-element
invariant-loop-element l = l.samples ≡ flat_map samples_of (take l.element-index l.elements)
