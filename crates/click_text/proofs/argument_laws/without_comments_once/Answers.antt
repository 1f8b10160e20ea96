use Rattle.std.proofs.Common.{refl}
use Rattle.click_text.specs.Items.{bytes_of}
use Rattle.click_text.specs.Words.{spaced}
use Rattle.click_text.proofs.OfArguments.OneText.{one_text}
use Rattle.click_text.proofs.OfItems.ItemExistence.{reading}
use Rattle.click_text.proofs.argument_laws.without_comments_once.Goals as goal

pub returns : goal.returns
returns c = record {
  some = λ text. let r = reading text in (bytes_of (spaced r.0), record { items = r.0; read = r.1; spaces = refl });
  one = λ text bytes others h k. one_text text bytes others h k;
}
