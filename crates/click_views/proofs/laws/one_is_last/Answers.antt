use Rattle.click_views.proofs.Beginnings.{one_last}
use Rattle.click_views.proofs.laws.one_is_last.Goals as goal

pub returns : goal.returns
returns g c = one_last
