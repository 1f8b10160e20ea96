use Rattle.click_player.proofs.Belonging.{seat_back}
use Rattle.click_player.proofs.seated.Seated.session.Goals as goal

pub invariant_of-self-2 : goal.invariant_of-self-2
invariant_of-self-2 g c = (
  seat_back c.self.inside.desk c.self.inside.drivers.items c.self.inside.seats.items c.remove-seat.new.self.items c.push.new.self.items c.in_ok-place.place c.remove-seat.result c.serve-said.result.1 c.in_ok-place.ensures c.remove-seat.ensures.value c.remove-seat.ensures.items
      c.serve-said.ensures.0 c.serve-said.ensures.1 c.in_ok-push.ensures.items c.self.invariant.0,
  c.self.invariant.1,
  c.self.invariant.2,
)
