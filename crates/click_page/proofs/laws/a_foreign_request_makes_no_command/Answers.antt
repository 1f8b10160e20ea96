use Rattle.click_page.proofs.RequestLaws.{foreign}
use Rattle.click_page.proofs.laws.a_foreign_request_makes_no_command.Goals as goal

pub returns : goal.returns
returns c = foreign
