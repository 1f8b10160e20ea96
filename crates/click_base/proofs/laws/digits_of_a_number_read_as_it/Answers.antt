use Rattle.click_base.proofs.Decimals.{decimal_number-inside, decimal_number-below, decimal_number-above}
use Rattle.click_base.proofs.laws.digits_of_a_number_read_as_it.Goals as goal

pub returns : goal.returns
returns c = record { inside = decimal_number-inside; below = decimal_number-below; above = decimal_number-above }
