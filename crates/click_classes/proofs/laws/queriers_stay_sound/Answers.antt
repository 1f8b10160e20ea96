use Rattle.click_classes.proofs.OfQueriers.QuerierAccounts.{made-sound, run-told}
use Rattle.click_classes.proofs.laws.queriers_stay_sound.Goals as goal

pub returns : goal.returns
returns c = record { made = made-sound; kept = λ outputs q es sound. (run-told outputs q es sound).sound }
