use Rattle.std.proofs.Common.{◌∙◌, ap, drop}
use Rattle.click_packet.specs.Checksum.{sum_of_words, ones_sum}
use Rattle.click_gateway.specs.Icmp.{carried}
use Rattle.click_gateway.proofs.Echoes.{echo_reply-carries, echo_reply-len}
use Rattle.click_gateway.proofs.Messages.{message-sums, message-rest}
use Rattle.click_gateway.proofs.laws.echo_replies_are_good.Goals as goal

pub returns-clause-good : goal.returns-clause-good
returns-clause-good c = λ bytes. (echo_reply-carries bytes).good

pub returns-clause-source : goal.returns-clause-source
returns-clause-source c = λ bytes. (echo_reply-carries bytes).source

pub returns-clause-destination : goal.returns-clause-destination
returns-clause-destination c = λ bytes. (echo_reply-carries bytes).destination

pub returns-clause-sum : goal.returns-clause-sum
returns-clause-sum c = λ bytes. ap (λ xs. ones_sum (sum_of_words xs)) (echo_reply-carries bytes).carried ∙ message-sums 0 0 (drop 4 (carried bytes))

pub returns-clause-data : goal.returns-clause-data
returns-clause-data c = λ bytes. ap (λ xs. drop 4 xs) (echo_reply-carries bytes).carried ∙ message-rest 0 0 (drop 4 (carried bytes))

pub returns-clause-len : goal.returns-clause-len
returns-clause-len c = echo_reply-len
