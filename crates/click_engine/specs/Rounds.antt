-- Packet runs and rounds.
use Rattle.std.specs.Prelude.{ℕ, zero, suc, ◌+◌, List, [], ◌∷◌, Option, Some, None, slice_get, slice_index_or}
use Rattle.click_packet.specs.Packet.{Packet}
use Rattle.click_classes.specs.Acts.{Stored, burst_of, emission}
use Rattle.click_base.specs.declared.class.Class.{Class}
use Rattle.click_base.specs.declared.class.Class.TheVariants as class
use Rattle.click_classes.specs.declared.state.State.{State}
use Rattle.click_engine.specs.Devices.{element_with}
use Rattle.click_engine.specs.RunState.{blank, with_state}
use Rattle.click_engine.specs.Run.{push, pull, Pulled}
use Rattle.click_engine.specs.Plant.{Plant, most_crossings, wiring, begin, end}

-- the element where packets of a device enter, and the one where they leave
abbrev pub source_of : Plant → List ℕ → Option ℕ
source_of v device = element_with v.sources device

abbrev pub sink_of : Plant → List ℕ → Option ℕ
sink_of v device = element_with v.sinks device

abbrev pub state_at : Plant → ℕ → State
state_at v at = (slice_index_or v.elements at blank).state

-- one packet run: a packet is pushed at output 0 of an element
abbrev pub emitted : Plant → ℕ → Packet → Plant
emitted v at p = end v (push (wiring v) most_crossings (begin most_crossings v) at 0 p)

-- one packet run: an element pulls at its input 0
abbrev pub asks : Plant → ℕ → Pulled
asks v at = pull (wiring v) most_crossings (begin most_crossings v) at 0

-- a packet of a device enters
abbrev pub arrive : Plant → List ℕ → Packet → Plant
arrive v device p = elim (source_of v device) [ None ↦ v | Some at ↦ emitted v at p ]

-- a device takes a packet: the plant afterwards, and the packet
abbrev pub transmit : Plant → List ℕ → Plant
transmit v device = elim (sink_of v device) [ None ↦ v | Some at ↦ end v (asks v at).run_state ]

abbrev pub transmitted : Plant → List ℕ → Option Packet
transmitted v device = elim (sink_of v device) [ None ↦ None | Some at ↦ (asks v at).packet ]

-- a plant and a number of packets
pub record RoundResult : Type 0 where
  pub plant : Plant
  pub packets : ℕ

abbrev pub idle : Plant → RoundResult
idle v = record { plant = v; packets = 0 }

-- the task of an Unqueue: it pulls, and pushes what it got in the same packet run
abbrev pub unqueued : Plant → ℕ → RoundResult
unqueued v at =
    let r = asks v at in
    elim r.packet [
      | None ↦ record { plant = end v r.run_state; packets = 0 }
      | Some p ↦ record { plant = end v (push (wiring v) most_crossings r.run_state at 0 p); packets = 1 }
    ]

-- the task of a Discard: it pulls
abbrev pub discarded : Plant → ℕ → RoundResult
discarded v at =
    let r = asks v at in
    elim r.packet [ None ↦ record { plant = end v r.run_state; packets = 0 } | Some p ↦ record { plant = end v r.run_state; packets = 1 } ]

-- one packet run: the source counts a packet, which is pushed at output 0
abbrev pub sourced : Plant → ℕ → Stored → Plant
sourced v at e = end v (push (wiring v) most_crossings (with_state (begin most_crossings v) at e.state) at 0 e.packet)

-- up to `count` packets of a source, each in a packet run of its own
unfoldable pub bursts : ℕ → ℕ → Plant → RoundResult
bursts zero at v = idle v
bursts (suc count) at v = elim (emission (state_at v at)) [
  | None ↦ idle v
  | Some e ↦
      let rest = bursts count at (sourced v at e) in
      record { plant = rest.plant; packets = 1 + rest.packets }
]

-- the task of an element, by its class
abbrev pub task_of : Class → Plant → ℕ → RoundResult
task_of class.InfiniteSource v at = bursts (burst_of (state_at v at)) at v
task_of class.Unqueue v at = unqueued v at
task_of class.Discard v at = discarded v at
task_of c v at = idle v

abbrev pub task : Plant → ℕ → RoundResult
task v at = elim (slice_get v.net.shapes at) [ None ↦ idle v | Some shape ↦ task_of shape.class v at ]

-- the tasks of these elements, one after another
unfoldable pub tasks : List ℕ → Plant → RoundResult
tasks [] v = idle v
tasks (at ∷ places) v =
    let done = task v at in
    let rest = tasks places done.plant in
    record { plant = rest.plant; packets = done.packets + rest.packets }

-- one round: each task once, in flat order
abbrev pub round : Plant → RoundResult
round v = tasks v.tasks v
