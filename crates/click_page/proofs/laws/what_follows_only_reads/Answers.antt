use Rattle.click_page.proofs.RequestLaws.{later_reads}
use Rattle.click_page.proofs.laws.what_follows_only_reads.Goals as goal

pub returns : goal.returns
returns c = later_reads
