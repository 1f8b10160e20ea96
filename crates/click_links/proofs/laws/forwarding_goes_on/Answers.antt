use Rattle.click_links.proofs.Gifts.{forwards_then}
use Rattle.click_links.proofs.laws.forwarding_goes_on.Goals as goal

pub returns : goal.returns
returns c = forwards_then
