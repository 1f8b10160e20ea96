use Rattle.click_capture.proofs.Reading.{no_fault}
use Rattle.click_capture.proofs.laws.headers_have_no_fault.Goals as goal

pub returns : goal.returns
returns c = no_fault
