use Rattle.click_links.proofs.Gifts.{link_sends}
use Rattle.click_links.proofs.laws.each_link_sends_what_its_device_gave.Goals as goal

pub returns : goal.returns
returns c = link_sends
