use Rattle.click_page.proofs.RequestLaws.{unmarked}
use Rattle.click_page.proofs.laws.only_a_marked_post_writes.Goals as goal

pub returns : goal.returns
returns c = unmarked
