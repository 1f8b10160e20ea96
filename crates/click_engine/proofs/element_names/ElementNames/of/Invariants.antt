use Rattle.std.proofs.Common.{◌≡◌, ℕ, drop}
use Rattle.std.specs.Prelude.{nat_eq}
use Rattle.std.specs.HashMap.{get}
use Rattle.click_engine.specs.kept.Sums.{first_with_sum}
use Rattle.click_engine.proofs.element_names.ElementNames.of.Given as goal

-- the checksums of the names from `at` on are entered
abbrev pub invariant-loop-at : goal.invariant-loop-at
invariant-loop-at l = (sum : ℕ) → get nat_eq l.first sum ≡ first_with_sum sum l.at (drop l.at l.net.names)
