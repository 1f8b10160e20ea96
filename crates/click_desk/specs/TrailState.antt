-- A trail as contracts see it.
use Rattle.std.specs.Prelude.{Bool, List}

-- whether it stores its items, whether one more can be stored without allocating, and all items
-- that were added, in order
pub record TrailState (T : Type 0) : Type 0 where
  pub keeps : Bool
  pub ready : Bool
  pub items : List T
