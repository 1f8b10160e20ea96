use Rattle.std.proofs.Common.{◌∙◌, sym, ap}
use Rattle.click_text.specs.Unquote.{plain_bytes}
use Rattle.click_text.proofs.OfItems.OneItemList.{items_once}
use Rattle.click_text.proofs.argument_laws.stands_once.Goals as goal

pub returns : goal.returns
returns c = λ text a b h k. h.plain_is ∙ ap plain_bytes (items_once h.read k.read) ∙ sym k.plain_is
