use Rattle.click_prog.proofs.OneWay.{leads-one}
use Rattle.click_prog.proofs.pcap.laws.packets_lead_one_way.Goals as goal

pub returns : goal.returns
returns c = leads-one
