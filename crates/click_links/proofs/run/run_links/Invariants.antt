use Rattle.std.proofs.Common.{Some}
use Rattle.click_links.specs.Turns.{names_of}
use Rattle.click_links.proofs.run.run_links.Given as goal

abbrev pub ghosts-run_as : goal.ghosts-run_as
ghosts-run_as g a = record {
  desk = Some a.desk.now;
  number = a.seat.number;
  feeds = a.seat.feeds;
  calls = a.seat.calls;
  names = names_of a.link_set.devices.now;
  attempts = g.S.Outbound.attempts a.link_set.sender;
}
