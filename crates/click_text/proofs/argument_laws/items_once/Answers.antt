use Rattle.click_text.proofs.OfItems.OneItemList.{items_once, items_are_text}
use Rattle.click_text.proofs.OfItems.ItemExistence.{reading}
use Rattle.click_text.proofs.argument_laws.items_once.Goals as goal

pub returns : goal.returns
returns c = record { some = λ text. reading text; one = λ text items others a b. items_once a b; whole = λ text items a. items_are_text a }
