-- The neighbours that stay in the table of an ARPQuerier when an operator writes it.
use Rattle.std.specs.Prelude.{◌-◌, Bool, false, not, nat_lt}
use Rattle.std.specs.Str.{bytes_eq}
use Rattle.click_classes.specs.Neighbours.{Neighbour}
use Rattle.click_classes.specs.declared.neighbours.KeepTest.{KeepTest}
use Rattle.click_classes.specs.declared.neighbours.KeepTest.TheVariants as test

-- whether a neighbour passes the test
abbrev pub passes : KeepTest → Neighbour → Bool
passes test.Nothing n = false
passes (test.Without address) n = not (bytes_eq n.address address)
passes (test.Recent now most) n = nat_lt (now - n.used) most
