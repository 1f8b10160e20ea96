use Rattle.std.proofs.Common.{slice_index_or}
use Rattle.click_player.proofs.Belonging.{new_seat_belongs}
use Rattle.click_player.proofs.seated.Seated.new.Goals as goal

pub invariant_of-result : goal.invariant_of-result
invariant_of-result g c = (
  λ k d below. new_seat_belongs c.args.desk c.args.drivers.items (slice_index_or c.args.seats.items k d) (c.requires.seats k d below) (c.requires.fed k d below) c.requires.apart,
  c.requires.views,
  tt,
)
