use Rattle.click_player.proofs.Belonging.{driver_again}
use Rattle.click_player.proofs.seated.Seated.receive.Goals as goal

pub invariant_of-self-2 : goal.invariant_of-self-2
invariant_of-self-2 g c = (
  driver_again c.self.inside.desk c.self.inside.drivers.items c.remove-driver.new.self.items c.push.new.self.items c.self.inside.seats.items c.in_ok-place.place c.remove-driver.result c.receive_all-driver.result.0 c.in_ok-place.ensures c.remove-driver.ensures.value c.remove-driver.ensures.items
      c.receive_all-driver.ensures c.in_ok-push.ensures.items c.self.invariant.0,
  c.self.invariant.1,
  c.self.invariant.2,
)
