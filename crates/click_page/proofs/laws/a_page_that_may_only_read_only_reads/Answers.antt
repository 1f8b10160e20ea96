use Rattle.click_page.proofs.RequestLaws.{only_reads}
use Rattle.click_page.proofs.laws.a_page_that_may_only_read_only_reads.Goals as goal

pub returns : goal.returns
returns c = only_reads
