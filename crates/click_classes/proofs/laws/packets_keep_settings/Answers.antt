use Rattle.click_classes.proofs.OfStates.StateSettings.{act-settings, gives-settings, stored-settings, emission-settings, class-settings}
use Rattle.click_classes.proofs.laws.packets_keep_settings.Goals as goal

pub returns : goal.returns
returns c = record { pushed = act-settings; pulled = gives-settings; stored = stored-settings; emitted = emission-settings; class = class-settings }
