use Rattle.click_classes.proofs.OfStates.StateTakeOver.{other_class, anew}
use Rattle.click_classes.proofs.laws.all_others_begin_anew.Goals as goal

pub returns : goal.returns
returns c = record { other_class = other_class; not_taken = anew }
