use Rattle.click_engine.proofs.OfInvariants.ElementInvariants.{arrive-settings, transmit-settings, round-settings}
use Rattle.click_engine.proofs.laws.runs_keep_settings.Goals as goal

pub returns : goal.returns
returns c = record { arrive = arrive-settings; transmit = transmit-settings; round = round-settings }
