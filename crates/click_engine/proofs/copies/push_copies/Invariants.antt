use Rattle.std.proofs.Common.{◌≡◌, vec_len}
use Rattle.click_engine.specs.Adjacency.{run_state_of, wiring_of}
use Rattle.click_engine.specs.kept.Transfers.{Served}
use Rattle.click_engine.proofs.copies.push_copies.Given as goal

-- the outputs up to here are served
abbrev pub invariant-loop-copy : goal.invariant-loop-copy
invariant-loop-copy l = record {
  same : l.push_frame.at ≡ l.initial.push_frame.at;
  served : Served (wiring_of l.adjacency) (run_state_of l.initial.run_memory) (run_state_of l.run_memory) l.initial.push_frame l.push_frame l.copy;
  count : vec_len l.run_memory.elements ≡ vec_len l.initial.run_memory.elements;
}

abbrev pub decreases-loop-copy : goal.decreases-loop-copy
decreases-loop-copy l = l.push_frame.count
