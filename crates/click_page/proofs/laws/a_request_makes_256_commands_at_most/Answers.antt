use Rattle.click_page.proofs.RequestLaws.{few}
use Rattle.click_page.proofs.laws.a_request_makes_256_commands_at_most.Goals as goal

pub returns : goal.returns
returns c = few
