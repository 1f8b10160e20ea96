use Rattle.std.proofs.Common.{arith}
use Rattle.std.proofs.lemmas.Grind.{common_steps}
use Rattle.click_control.proofs.Words.{from_blank-drop}
use Rattle.click_control.proofs.parsed.cut.Goals as goal

pub returns : goal.returns
returns c = grind (arith, common_steps, from_blank-drop)
