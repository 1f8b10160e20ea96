-- The ports of one side of an element, in order.
use Rattle.std.specs.Prelude.{ℕ, suc, zero, List, [], ◌∷◌, ◌++◌}
use Rattle.click_classes.specs.declared.ports.Side.{Side}
use Rattle.click_ports.specs.declared.port.Port.{Port}

abbrev pub side_ports : ℕ → Side → ℕ → List Port
side_ports e s zero = []
side_ports e s (suc n) = side_ports e s n ++ record { element = e; side = s; number = n } ∷ []
