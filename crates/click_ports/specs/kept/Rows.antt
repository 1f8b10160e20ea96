-- The stored numbers of a row.
use Rattle.std.specs.Prelude.{ℕ, List, [], ◌∷◌}
use Rattle.click_ports.specs.declared.row.Numbers.{Numbers}
use Rattle.click_ports.specs.declared.row.Numbers.TheVariants.{None, One, Many}

abbrev pub listed : Numbers → List ℕ
listed None = []
listed (One n) = n ∷ []
listed (Many all) = all.items
