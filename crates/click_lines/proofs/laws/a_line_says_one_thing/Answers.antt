use Rattle.click_lines.proofs.Entries.{line_once}
use Rattle.click_lines.proofs.laws.a_line_says_one_thing.Goals as goal

pub returns : goal.returns
returns c = line_once
