use Rattle.click_views.proofs.Beginnings.{more, closed}
use Rattle.click_views.proofs.laws.entries_are_installs.Goals as goal

pub returns-clause-more : goal.returns-clause-more
returns-clause-more g c = more

pub returns-clause-closed : goal.returns-clause-closed
returns-clause-closed g c = closed
