use Rattle.click_prog.proofs.OneWay.{all-one}
use Rattle.click_prog.proofs.pcap.laws.records_give_one_capture.Goals as goal

pub returns : goal.returns
returns c = all-one
