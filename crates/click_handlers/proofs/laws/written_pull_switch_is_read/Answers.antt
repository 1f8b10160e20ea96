use Rattle.click_handlers.proofs.ReadsAfterWrites.{read_back, pull_switch_at}
use Rattle.click_base.specs.Blanks.{trimmed}
use Rattle.std.specs.Prelude.{codes}
use Rattle.click_handlers.proofs.laws.written_pull_switch_is_read.Goals as goal

pub returns : goal.returns
returns c e f text any port is number done = read_back (codes "switch") (codes "switch") e f text any _ (λ t made. pull_switch_at e.inputs e.outputs e.state (trimmed text) any port t is number made) done
