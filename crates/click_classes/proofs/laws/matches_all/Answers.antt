use Rattle.std.proofs.Common.{◌≡◌, [], refl}
use Rattle.click_classes.specs.declared.values.pattern.Pattern.{Pattern}
use Rattle.click_classes.specs.Patterns.{pattern}
use Rattle.click_classes.proofs.laws.matches_all.Goals as goal

pub returns : goal.returns
unfolding pattern
returns c = λ p bytes e.
    let dash : Pattern = record { clauses = [] } in
    let same : dash ≡ p = cc in
    rw (← same) refl
