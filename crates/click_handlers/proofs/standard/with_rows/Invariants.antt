use Rattle.std.proofs.Common.{◌≡◌, map, take}
use Rattle.click_handlers.specs.Names.{of_class, handled, names_by, reads_of, writes_of}
use Rattle.click_handlers.proofs.RowNames.{up_to}
use Rattle.click_handlers.proofs.standard.with_rows.Given as goal

abbrev pub invariant-loop-owner : goal.invariant-loop-owner
invariant-loop-owner g l = map (λ r. of_class r.class r.name.items) l.reads.items ≡ names_by reads_of (take l.owner-index handled)

abbrev pub invariant-loop-place : goal.invariant-loop-place
invariant-loop-place g l = map (λ r. of_class r.class r.name.items) l.reads.items ≡ up_to reads_of l.owner-index l.owner l.place

abbrev pub invariant-loop-owner-2 : goal.invariant-loop-owner-2
invariant-loop-owner-2 g l = map (λ r. of_class r.class r.name.items) l.writes.items ≡ names_by writes_of (take l.owner-index handled)

abbrev pub invariant-loop-place-2 : goal.invariant-loop-place-2
invariant-loop-place-2 g l = map (λ r. of_class r.class r.name.items) l.writes.items ≡ up_to writes_of l.owner-index l.owner l.place
