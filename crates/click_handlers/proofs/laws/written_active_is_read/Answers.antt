use Rattle.click_handlers.proofs.ActivePorts.{port_named}
use Rattle.click_handlers.proofs.ReadsAfterWrites.{read_back, active_at}
use Rattle.click_base.specs.Blanks.{trimmed}
use Rattle.click_handlers.specs.Names.{active_name}
use Rattle.click_handlers.proofs.laws.written_active_is_read.Goals as goal

pub returns : goal.returns
returns c e f active text any port b is small below held flag done =
    read_back (active_name port) (active_name port) e f text any _
    (λ t made. active_at e.inputs e.outputs e.state active (active_name port) (trimmed text) any port b t is (port_named port small) below held flag made) done
