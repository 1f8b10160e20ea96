use Rattle.click_classes.proofs.OfStates.StateTakeOver.{keeps_class, keeps_settings, keeps_ports, stays_sound}
use Rattle.click_classes.proofs.laws.taking_over_keeps_elements_sound.Goals as goal

pub returns : goal.returns
returns c = record { class = keeps_class; settings = keeps_settings; ports = keeps_ports; sound = stays_sound }
