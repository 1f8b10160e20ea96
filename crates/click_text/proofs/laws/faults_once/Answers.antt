use Rattle.click_text.proofs.OfParser.OneAnswer.{faults_once}
use Rattle.click_text.proofs.laws.faults_once.Goals as goal

pub returns : goal.returns
returns c = faults_once
