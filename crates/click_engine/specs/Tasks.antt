-- The elements that have a task, which runs once in each round (Click manual, "Tasks").
use Rattle.std.specs.Prelude.{ℕ, ◌+◌, List, [], ◌∷◌}
use Rattle.click_base.specs.declared.class.Class.{Class}
use Rattle.click_base.specs.declared.class.Class.TheVariants as class
use Rattle.click_ports.specs.Kinds.{IsPull}
use Rattle.click_ports.specs.Net.{Net}
use Rattle.click_ports.specs.Ports.{Has, input}
use Rattle.click_ports.specs.declared.shape.Shape.{Shape}

-- it is an InfiniteSource, an Unqueue, or a Discard with a pull input
abbrev pub HasTask : Net → ℕ → Class → Type 0
HasTask net at class.InfiniteSource = Unit {0}
HasTask net at class.Unqueue = Unit {0}
HasTask net at class.Discard = Has net.connections (input at 0) × IsPull net.shapes net.connections (input at 0)
HasTask net at c = ⊥

-- the indices of the elements with a task among these, which begin at an index, in flat order
pub data AreTasks (net : Net) : ℕ → List Shape → List ℕ → Type 0 where
  over : (at : ℕ) → AreTasks net at [] []
  task : (at : ℕ) (s : Shape) (ss : List Shape) (places : List ℕ) → HasTask net at s.class → AreTasks net (at + 1) ss places → AreTasks net at (s ∷ ss) (at ∷ places)
  idle : (at : ℕ) (s : Shape) (ss : List Shape) (places : List ℕ) → (HasTask net at s.class → ⊥) → AreTasks net (at + 1) ss places → AreTasks net at (s ∷ ss) places
