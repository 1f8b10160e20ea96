use Rattle.click_expand.proofs.OfFlatText.ReadBackLaw.{reads_back}
use Rattle.click_expand.proofs.laws.flat_text_reads_back.Goals as goal

pub returns : goal.returns
returns c = reads_back
