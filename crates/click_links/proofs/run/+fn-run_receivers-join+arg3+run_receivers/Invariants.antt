use Rattle.std.proofs.Common.{vec_len, ◌+◌, ◌*◌}
use Rattle.click_links.proofs.run.+fn-run_receivers-join+arg3+run_receivers.Given as goal

abbrev pub decreases-join+arg3 : goal.decreases-join+arg3
decreases-join+arg3 g l = 2 * vec_len l.links + 1

abbrev pub decreases-run_receivers : goal.decreases-run_receivers
decreases-run_receivers g l = 2 * vec_len l.links
