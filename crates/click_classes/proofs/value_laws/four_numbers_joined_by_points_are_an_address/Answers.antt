use Rattle.click_classes.proofs.OfArguments.ValueTexts.{address-read}
use Rattle.click_classes.proofs.value_laws.four_numbers_joined_by_points_are_an_address.Goals as goal

pub returns : goal.returns
returns c = address-read
