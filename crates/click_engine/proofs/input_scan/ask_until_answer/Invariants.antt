use Rattle.std.proofs.Common.{◌≡◌, ℕ, ◌<◌, vec_len, [], ◌∷◌, None}
use Rattle.click_engine.specs.Adjacency.{run_state_of, wiring_of}
use Rattle.click_engine.specs.Frames.{Follows}
use Rattle.click_engine.specs.kept.Asked.{asks_now, IsSmall}
use Rattle.click_engine.proofs.OfFrames.FrameTurns.{transfer_stack}
use Rattle.click_engine.proofs.input_scan.ask_until_answer.Given as goal

-- no input has answered yet
abbrev pub invariant-loop-pull_result : goal.invariant-loop-pull_result
invariant-loop-pull_result l = record {
  follows : (room : ℕ) → (run_state_of l.initial.run_memory).left < room
      → Follows (wiring_of l.adjacency) (run_state_of l.initial.run_memory) (transfer_stack (asks_now l.initial.input_scan ∷ []) None room) (run_state_of l.run_memory) (transfer_stack (asks_now l.input_scan ∷ []) None room);
  some : 0 < l.input_scan.count;
  small : IsSmall l.input_scan;
  at : l.input_scan.at ≡ l.initial.input_scan.at;
  count : vec_len l.run_memory.elements ≡ vec_len l.initial.run_memory.elements;
}

abbrev pub decreases-loop-pull_result : goal.decreases-loop-pull_result
decreases-loop-pull_result l = l.input_scan.count
