use Rattle.click_gateway.proofs.ArpFields.{request-fields}
use Rattle.click_gateway.proofs.laws.requests_ask_for_the_address.Goals as goal

pub returns-clause-wanted : goal.returns-clause-wanted
returns-clause-wanted c = λ ip ether wanted n m k. (request-fields ip ether wanted n m k).0

pub returns-clause-sender : goal.returns-clause-sender
returns-clause-sender c = λ ip ether wanted n m s k. (request-fields ip ether wanted n m k).1 s
