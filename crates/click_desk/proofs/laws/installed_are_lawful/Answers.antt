use Rattle.click_desk.proofs.LawfulHistories.{each_lawful}
use Rattle.click_desk.proofs.laws.installed_are_lawful.Goals as goal

pub returns : goal.returns
returns c = each_lawful
