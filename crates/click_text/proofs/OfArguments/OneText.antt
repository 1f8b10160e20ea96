-- An argument has only one text without comments.
use Rattle.std.proofs.Common.{◌≡◌, ℕ, List, ap, sym, ◌∙◌}
use Rattle.click_text.specs.Items.{bytes_of}
use Rattle.click_text.specs.Words.{spaced, IsWithoutComments}
use Rattle.click_text.proofs.OfItems.OneItemList.{items_once}

pub one_text : (text bytes others : List ℕ) → IsWithoutComments text bytes → IsWithoutComments text others → bytes ≡ others
one_text text bytes others a b = a.spaces ∙ ap (λ items. bytes_of (spaced items)) (items_once a.read b.read) ∙ sym b.spaces
