use Rattle.click_engine.proofs.OfInvariants.PlantOrder.{arrive-in-order, transmit-in-order, round-in-order}
use Rattle.click_engine.proofs.laws.plants_stay_in_order.Goals as goal

pub returns : goal.returns
returns c = record { arrive = arrive-in-order; transmit = transmit-in-order; round = round-in-order }
