use Rattle.click_capture.proofs.Reading.{read_again}
use Rattle.click_capture.proofs.header.header_of.Goals as goal

pub returns-clause-only : goal.returns-clause-only
returns-clause-only c = read_again c.fields_of.result c.args.bytes.now c.fields_of.ensures.ok c.fields_of.ensures.fault
