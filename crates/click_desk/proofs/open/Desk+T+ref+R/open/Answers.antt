use Rattle.click_desk.proofs.MissingViews.{viewless}
use Rattle.click_desk.proofs.open.Desk+T+ref+R.open.Goals as goal

pub returns-in-Err-clause-fault : goal.returns-in-Err-clause-fault
returns-in-Err-clause-fault g c = viewless c.args.seats c.args.inlets.items c.args.text.now c.in-Err.refused.fault c.in-Err.ensures.fault
