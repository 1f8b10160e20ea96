use Rattle.click_patterns.proofs.OpenLimits.{accepted, refused}
use Rattle.click_patterns.proofs.laws.at_most_32_open.Goals as goal

pub returns : goal.returns
returns c = record { accepted = accepted; refused = refused }
