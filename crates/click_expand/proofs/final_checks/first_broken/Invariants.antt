use Rattle.std.proofs.Common.{◌≡◌, true, take, All}
use Rattle.click_expand.specs.Flat.{is_whole}
use Rattle.click_expand.specs.declared.flat.FlatElement.{FlatElement}
use Rattle.click_expand.proofs.final_checks.first_broken.Given as goal

abbrev pub invariant-loop-place : goal.invariant-loop-place
invariant-loop-place l = All (λ (e : FlatElement). is_whole e.text ≡ true) (take l.place l.elements)
