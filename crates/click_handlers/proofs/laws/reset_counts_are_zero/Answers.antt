use Rattle.click_handlers.proofs.ReadsAfterWrites.{read_back, count_at}
use Rattle.click_base.specs.Blanks.{trimmed}
use Rattle.std.specs.Prelude.{codes}
use Rattle.click_handlers.proofs.laws.reset_counts_are_zero.Goals as goal

pub returns : goal.returns
returns c e f text any is done = (
  read_back (codes "reset_counts") (codes "count") e f text any _ (λ t made. (count_at e.inputs e.outputs e.state (trimmed text) any t is made).0) done,
  read_back (codes "reset_counts") (codes "byte_count") e f text any _ (λ t made. (count_at e.inputs e.outputs e.state (trimmed text) any t is made).1) done,
)
