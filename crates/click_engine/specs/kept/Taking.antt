-- Elements that take over one after another.
use Rattle.std.specs.Prelude.{◌≡◌, ℕ, ◌<◌, List, [], slice_set, slice_index_or}
use Rattle.click_engine.specs.Plant.{Plant}
use Rattle.click_engine.specs.TakeOver.{named, with_taken_over}
use Rattle.click_engine.specs.RunState.{blank}

-- the element with this index takes over from the old element with its name
abbrev pub taken_at : Plant → Plant → ℕ → Plant
taken_at v old at = record v { elements = slice_set v.elements at (with_taken_over (slice_index_or v.elements at blank) (named old (slice_index_or v.net.names at []))) }

-- the elements before this index still find what they have to take over
pub record IsKeptBefore (names : List (List ℕ)) (at : ℕ) (old new : Plant) : Type 0 where
  pub overruns : new.overruns ≡ old.overruns
  pub finds : (j : ℕ) → j < at → named new (slice_index_or names j []) ≡ named old (slice_index_or names j [])
