use Rattle.std.proofs.Common.{◌≡◌, map, take}
use Rattle.click_page.specs.Metrics.{full_name}
use Rattle.click_page.proofs.measuring.full_names.Given as goal

abbrev pub invariant-loop-sample : goal.invariant-loop-sample
invariant-loop-sample l = l.names.items ≡ map full_name (take l.sample-index l.samples)
