use Rattle.std.proofs.Common.{vec_len, ◌+◌, ◌*◌}
use Rattle.click_workers.proofs.work.+fn-work_all-join+arg3+work_all.Given as goal

abbrev pub decreases-join+arg3 : goal.decreases-join+arg3
decreases-join+arg3 g l = 2 * vec_len l.rest.seats + 1

abbrev pub decreases-work_all : goal.decreases-work_all
decreases-work_all g l = 2 * vec_len l.work.seats
