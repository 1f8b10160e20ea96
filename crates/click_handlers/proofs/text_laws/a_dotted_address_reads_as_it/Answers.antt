use Rattle.click_handlers.proofs.DottedAddresses.{dotted-read}
use Rattle.click_handlers.proofs.text_laws.a_dotted_address_reads_as_it.Goals as goal

pub returns : goal.returns
returns c = dotted-read
