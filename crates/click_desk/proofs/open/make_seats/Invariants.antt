use Rattle.std.proofs.Common.{◌≡◌, ◌≤◌, [], vec_len, vec_capacity}
use Rattle.crossbeam_queue.specs.Passes.{view, IsPassOf}
use Rattle.click_desk.specs.Views.{maker}
use Rattle.click_desk.specs.DeskSetups.{terms_of}
use Rattle.click_desk.specs.SeatStates.{seats_below}
use Rattle.click_desk.proofs.open.make_seats.Given as goal

abbrev pub invariant-loop-number : goal.invariant-loop-number
invariant-loop-number g l = record {
  pass : IsPassOf l.queue l.maker;
  known : view l.maker ≡ maker (view l.initial.maker).options l.number [];
  len : vec_len l.given ≡ l.number;
  room : l.count ≤ vec_capacity l.given;
  made : l.given.items ≡ seats_below (record { table = l.queue.table.shared.table_id; options = terms_of (view l.initial.maker).options }) (view l.initial.maker).options.feeds l.number;
}
