use Rattle.click_packet.proofs.Headers.{header_good-decides}
use Rattle.click_packet.proofs.laws.test_is_rule.Goals as goal

pub returns : goal.returns
returns c = header_good-decides
