use Rattle.click_router.proofs.OfCalls.OtherElements.{read_one_element}
use Rattle.click_router.proofs.laws.reads_ask_one_element.Goals as goal

pub returns : goal.returns
returns c = read_one_element
