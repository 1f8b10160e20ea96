-- The state of a router: its text, its elements and connections, and its plant.
use Rattle.std.specs.Prelude.{ℕ, List}
use Rattle.click_engine.specs.Plant.{Plant}
use Rattle.click_expand.specs.declared.flat.Flat.{Flat}

pub record RouterState : Type 0 where
  pub text : List ℕ
  pub flat : Flat
  pub plant : Plant
