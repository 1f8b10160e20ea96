use Rattle.click_handlers.proofs.EthernetTexts.{ethernet-read}
use Rattle.click_handlers.proofs.text_laws.an_ethernet_address_reads_as_it.Goals as goal

pub returns : goal.returns
returns c = ethernet-read
