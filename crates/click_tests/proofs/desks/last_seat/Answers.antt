use Rattle.std.proofs.Common.{◌≡◌, Some}
use Rattle.std.proofs.lemmas.List.Elements.{All-pop}
use Rattle.click_desk.specs.SeatStates.{SeatState}
use Rattle.click_tests.proofs.desks.last_seat.Goals as goal

pub returns-clause-desk : goal.returns-clause-desk
returns-clause-desk g c =
    (All-pop (λ (s : SeatState). s.desk ≡ c.args.desk.now) c.args.seats.items c.pop.new.self.items (Some c.in_ok-seat.seat) c.in_ok-seat.ensures.items c.requires.desk).0

pub returns-clause-feeds : goal.returns-clause-feeds
returns-clause-feeds g c =
    (All-pop (λ (s : SeatState). s.feeds ≡ c.args.drivers.now.items) c.args.seats.items c.pop.new.self.items (Some c.in_ok-seat.seat) c.in_ok-seat.ensures.items c.requires.feeds).0

pub returns-clause-seat : goal.returns-clause-seat
returns-clause-seat g c = (
  (All-pop (λ (s : SeatState). s.desk ≡ c.args.desk.now) c.args.seats.items c.pop.new.self.items (Some c.in_ok-seat.seat) c.in_ok-seat.ensures.items c.requires.desk).1,
  (All-pop (λ (s : SeatState). s.feeds ≡ c.args.drivers.now.items) c.args.seats.items c.pop.new.self.items (Some c.in_ok-seat.seat) c.in_ok-seat.ensures.items c.requires.feeds).1,
)
