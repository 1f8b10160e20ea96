use Rattle.click_classes.proofs.OfArguments.ValueTexts.{number_in-inside, number_in-below, number_in-above}
use Rattle.click_classes.proofs.value_laws.digits_of_a_number_read_as_it_in_either_base.Goals as goal

pub returns : goal.returns
returns c = record { inside = number_in-inside; below = number_in-below; above = number_in-above }
