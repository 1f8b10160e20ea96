use Rattle.std.proofs.Common.{◌≡◌, length, take}
use Rattle.click_engine.specs.Devices.{devices_from}
use Rattle.click_engine.specs.kept.Tables.{devices}
use Rattle.click_engine.proofs.devices.Devices.of.Given as goal

abbrev pub invariant-loop-at : goal.invariant-loop-at
invariant-loop-at l = record {
  found : devices l.names l.places.items ≡ devices_from l.direction 0 (take l.at l.states);
  even : length l.names ≡ length l.places.items;
}
