use Rattle.click_handlers.proofs.ReadsAfterWrites.{read_back, capacity_at}
use Rattle.click_base.specs.Blanks.{trimmed}
use Rattle.std.specs.Prelude.{codes}
use Rattle.click_handlers.proofs.laws.written_capacity_is_read.Goals as goal

pub returns : goal.returns
returns c e f text any n some number done = read_back (codes "capacity") (codes "capacity") e f text any _ (λ t made. capacity_at e.inputs e.outputs e.state (trimmed text) any n t some number made) done
