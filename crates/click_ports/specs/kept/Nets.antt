-- The invariant of a net.
use Rattle.std.specs.Prelude.{ℕ, List, Bool}
use Rattle.click_classes.specs.declared.ports.Code.TheVariants.{Pull}
use Rattle.click_ports.specs.kept.Marks.{AreMarks}
use Rattle.click_ports.specs.Net.{IsLawfulNet}
use Rattle.click_ports.specs.kept.Wiring.{Wiring}

pub record KeepsNet (names : List (List ℕ)) (w : Wiring) (pulling : List Bool) : Type 0 where
  pub sound : IsLawfulNet (record { names = names; shapes = w.shapes; connections = w.connections })
  pub pulls : AreMarks w Pull pulling
