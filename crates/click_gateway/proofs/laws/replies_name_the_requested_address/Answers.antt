use Rattle.click_gateway.proofs.ArpFields.{reply_to-front, sender-reply}
use Rattle.click_gateway.proofs.laws.replies_name_the_requested_address.Goals as goal

pub returns-clause-to : goal.returns-clause-to
returns-clause-to c = reply_to-front

pub returns-clause-sender : goal.returns-clause-sender
returns-clause-sender c = sender-reply
