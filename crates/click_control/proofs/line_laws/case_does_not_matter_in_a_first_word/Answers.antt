use Rattle.click_control.proofs.KnownWords.{parsed-case}
use Rattle.click_control.proofs.line_laws.case_does_not_matter_in_a_first_word.Goals as goal

pub returns : goal.returns
returns c = parsed-case
