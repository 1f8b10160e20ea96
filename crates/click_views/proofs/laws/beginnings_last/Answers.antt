use Rattle.click_views.proofs.Beginnings.{beginnings}
use Rattle.click_views.proofs.laws.beginnings_last.Goals as goal

pub returns : goal.returns
returns g c = beginnings
