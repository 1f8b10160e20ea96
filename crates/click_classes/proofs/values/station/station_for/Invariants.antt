use Rattle.std.proofs.Common.{◌≡◌, drop}
use Rattle.click_classes.specs.Gateway.{station_for}
use Rattle.click_classes.proofs.values.station.station_for.Given as goal

abbrev pub invariant-loop-station : goal.invariant-loop-station
invariant-loop-station l = station_for (drop l.station-index l.stations) l.address ≡ station_for l.stations l.address
