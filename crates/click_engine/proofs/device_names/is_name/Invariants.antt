use Rattle.std.proofs.Common.{◌≡◌, ◌<◌, ℕ, get_or}
use Rattle.click_engine.proofs.device_names.is_name.Given as goal

-- the bytes up to here are equal
abbrev pub invariant-loop-at : goal.invariant-loop-at
invariant-loop-at l = (i : ℕ) → i < l.at → get_or l.name i 0 ≡ get_or l.other i 0
