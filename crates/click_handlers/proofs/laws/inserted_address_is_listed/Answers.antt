use Rattle.click_handlers.proofs.InsertedNeighbours.{insert-listed}
use Rattle.click_handlers.proofs.laws.inserted_address_is_listed.Goals as goal

pub returns : goal.returns
returns c e f text any address ether is both done = insert-listed address ether any e f text is both done
