-- The invariant of a layout.
use Rattle.std.specs.Prelude.{List, length}
use Rattle.click_expand.specs.declared.flat.Connection.{Connection}
use Rattle.click_ports.specs.declared.numbering.Block.{Block}
use Rattle.click_ports.specs.declared.port.Port.{Port}
use Rattle.click_ports.specs.declared.shape.Shape.{Shape}
use Rattle.click_ports.specs.kept.Wiring.{AreWithin, AreNumbered}

pub record IsLaidOut (ss : List Shape) (cs : List Connection) (blocks : List Block) (ports : List Port) : Type 0 where
  pub within : AreWithin (length ss) cs
  pub numbered : AreNumbered cs (length ss) blocks ports
