use Rattle.std.proofs.Common.{◌≡◌, map, take}
use Rattle.click_expand.specs.Flat.{AreDistinct}
use Rattle.click_expand.specs.kept.FinalChecks.{flat_names_in}
use Rattle.click_expand.proofs.final_checks.first_repeated.Given as goal

abbrev pub invariant-loop-place : goal.invariant-loop-place
invariant-loop-place l = (map (λ v. v.now) l.names.keys ≡ flat_names_in (take l.place l.elements)) × AreDistinct (map (λ v. v.now) l.names.keys)
