use Rattle.std.proofs.Common.{List, subst}
use Rattle.click_rings.specs.Feeds.{FeedName}
use Rattle.click_desk.specs.Openings.{IsViewFault}
use Rattle.click_desk.proofs.open.Desk+T+ref+R.open_of.Goals as goal

pub returns-in-Err-clause-fault : goal.returns-in-Err-clause-fault
returns-in-Err-clause-fault g c =
    rw c.refused.ensures (subst (λ (l : List FeedName). IsViewFault c.args.sizes.seats l c.args.sizes.views c.args.text.now c.in-Err.fault) c.as_slice.ensures.value c.in-Err.ensures.fault)
