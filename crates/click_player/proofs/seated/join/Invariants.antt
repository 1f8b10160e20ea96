use Rattle.std.proofs.Common.{◌≡◌, vec_len}
use Rattle.std.specs.List.{All}
use Rattle.click_player.specs.Belonging.{Belongs}
use Rattle.click_player.proofs.seated.join.Given as goal

abbrev pub invariant-loop-seat : goal.invariant-loop-seat
invariant-loop-seat g l = All (Belongs l.desk l.drivers.items) l.seats.items × All (Belongs l.desk l.drivers.items) l.others.items

abbrev pub decreases-loop-seat : goal.decreases-loop-seat
decreases-loop-seat g l = vec_len l.others
