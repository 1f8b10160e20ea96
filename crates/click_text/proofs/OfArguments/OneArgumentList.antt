-- A text has at most one list of arguments.
use Rattle.std.proofs.Common.{◌≡◌, ℕ, List, sym, ap, ◌∙◌}
use Rattle.click_text.specs.declared.syntax.Span.{Span}
use Rattle.click_text.specs.Arguments.{AreArguments, cut}
use Rattle.click_text.proofs.OfItems.OneItemList.{items_once}

pub arguments-once : (text : List ℕ) (x y : List Span) → AreArguments text x → AreArguments text y → x ≡ y
arguments-once text x y h k = h.cuts ∙ ap cut (items_once h.read k.read) ∙ sym k.cuts
