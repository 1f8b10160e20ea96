use Rattle.click_capture.proofs.Reading.{capture-one}
use Rattle.click_capture.proofs.laws.captures_read_back.Goals as goal

pub returns : goal.returns
returns c = capture-one
