use Rattle.std.proofs.Common.{◌∙◌, sym, ap}
use Rattle.click_text.specs.Arguments.{cut}
use Rattle.click_text.proofs.OfItems.OneItemList.{items_once}
use Rattle.click_text.proofs.argument_laws.arguments_once.Goals as goal

pub returns : goal.returns
returns c = λ text a b h k. h.cuts ∙ ap cut (items_once h.read k.read) ∙ sym k.cuts
