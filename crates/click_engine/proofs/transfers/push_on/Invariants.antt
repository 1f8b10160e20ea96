use Rattle.std.proofs.Common.{ℕ, ◌≤◌, length}
use Rattle.click_engine.specs.Adjacency.{wiring_of}
use Rattle.click_engine.specs.kept.Transfers.{run_state_with, Along}
use Rattle.click_engine.specs.kept.Tables.{IsTarget}
use Rattle.click_engine.specs.RunState.{EndsBlank}
use Rattle.click_engine.proofs.transfers.push_on.Given as goal

-- the output that gets the packet next, and the input that it is connected to
abbrev pub invariant-loop-left : goal.invariant-loop-left
invariant-loop-left l =
    let i = l.initial in
    record {
      along : (at : ℕ) (output : ℕ) (lost : ℕ) → IsTarget l.adjacency at output i.far
          → (near : ℕ) × (by : ℕ) × IsTarget l.adjacency near by l.far
          × Along (wiring_of l.adjacency) (run_state_with i.elements i.left lost) (run_state_with l.elements l.left lost) at output 1 i.push_frame.packet near by 1 l.push_frame.packet;
      there : l.far.element ≤ length l.adjacency.shapes;
      blank : EndsBlank l.elements;
    }

abbrev pub decreases-loop-left : goal.decreases-loop-left
decreases-loop-left l = l.left
