use Rattle.click_text.proofs.OfParser.OneAnswer.{spells_once}
use Rattle.click_text.proofs.laws.spells_once.Goals as goal

pub returns : goal.returns
returns c = spells_once
