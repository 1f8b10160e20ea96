use Rattle.click_workers.proofs.TransmitSeats.{made-quiet}
use Rattle.click_workers.proofs.laws.commands_make_no_transmit.Goals as goal

pub returns : goal.returns
returns c = made-quiet
