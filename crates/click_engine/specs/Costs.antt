-- The cost of a push, in crossings.
use Rattle.std.specs.Prelude.{◌≡◌, ℕ, zero, suc, ◌+◌, ◌≤◌, List, Some, None, slice_index_or}
use Rattle.click_packet.specs.Packet.{Packet}
use Rattle.click_classes.specs.Acts.{act}
use Rattle.click_classes.specs.Settings.{settings}
use Rattle.click_classes.specs.declared.state.State.{State}
use Rattle.click_engine.specs.declared.run_state.Element.{Element}
use Rattle.click_engine.specs.RunState.{Wiring, blank}

module _ (net : Wiring) (cost : ℕ → ℕ) where
  -- one crossing, and the cost of the element at the other end
  abbrev pub crossing_cost : ℕ → ℕ → ℕ
  crossing_cost at output = elim (net.target at output) [ None ↦ 1 | Some far ↦ 1 + cost far.element ]

  -- the cost of a push at each of `count` outputs of an element, from `first` on
  abbrev pub outputs_cost : ℕ → ℕ → ℕ → ℕ
  outputs_cost at zero first = 0
  outputs_cost at (suc count) first = crossing_cost at first + outputs_cost at count (first + 1)

  -- `cost` bounds each element: for every state with the same settings and every packet pushed into
  -- it, the outputs that get the packet cost at most `cost at`. So elements in a ring have no cost,
  -- unless one of them pushes nothing on
  pub record IsCost (es : List Element) : Type 0 where
    pub each : (at : ℕ) (s : State) → settings s ≡ settings (slice_index_or es at blank).state → (input : ℕ) (p : Packet)
        → outputs_cost at (act (slice_index_or es at blank).outputs s input p).outputs.count (act (slice_index_or es at blank).outputs s input p).outputs.first ≤ cost at
