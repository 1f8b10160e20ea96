-- The state that a packet run changes, and the wiring that it follows.
use Rattle.std.specs.Prelude.{◌≡◌, ℕ, Bool, ◌+◌, ◌-◌, ◌^◌, ◌<◌, min, List, Option, length, take, slice_index_or, slice_set}
use Rattle.click_classes.specs.declared.state.State.{State}
use Rattle.click_classes.specs.declared.state.State.TheVariants.{Idle}
use Rattle.click_packet.specs.Packet.{Packet}
use Rattle.click_classes.specs.Acts.{act, tries, gives, PushEffect, PullEffect}
use Rattle.click_classes.specs.declared.packet_effects.PortRange.{PortRange}
use Rattle.click_base.specs.declared.class.Class.TheVariants as class
use Rattle.click_engine.specs.declared.run_state.Element.{Element}
use Rattle.click_engine.specs.declared.run_state.ConnectionEnd.{ConnectionEnd}

-- the input that a push at an output goes to, and the output that a pull at an input asks
pub record Wiring : Type 0 where
  pub target : ℕ → ℕ → Option ConnectionEnd
  pub source : ℕ → ℕ → Option ConnectionEnd

-- the elements, the crossings that the packet run has left, and the overruns up to now
pub record RunState : Type 0 where
  pub elements : List Element
  pub left : ℕ
  pub overruns : ℕ

-- an Idle, which drops each packet that it gets and never has one
abbrev pub blank : Element
blank = record { class = class.Idle; inputs = 0; outputs = 0; state = Idle }

-- a list that ends with such an Idle, which is no element of the net: an end without a connection
-- leads to it
abbrev pub EndsBlank : List Element → Type 0
EndsBlank es = (0 < length es) × (slice_index_or es (length es - 1) blank ≡ blank)

-- the elements of the net
abbrev pub but_last : List Element → List Element
but_last es = take (length es - 1) es

abbrev pub element_at : RunState → ℕ → Element
element_at w at = slice_index_or w.elements at blank

-- the run state with another state at an element
abbrev pub with_state : RunState → ℕ → State → RunState
with_state w at s = record w { elements = slice_set w.elements at (record (element_at w at) { state = s }) }

-- the run state after a crossing was spent, and after one was needed when none was left
abbrev pub spent : RunState → RunState
spent w = record w { left = w.left - 1 }

abbrev pub overrun : RunState → RunState
overrun w = record w { overruns = min (w.overruns + 1) (2 ^ 64 - 1) }

-- what an element does with a pushed packet, and with a pulled one, and the inputs that it asks
abbrev pub acted_at : RunState → ℕ → ℕ → Packet → PushEffect
acted_at w at input p = let e = element_at w at in act e.outputs e.state input p

abbrev pub given_at : RunState → ℕ → ℕ → Packet → PullEffect
given_at w at input p = let e = element_at w at in gives e.inputs e.outputs e.state input p

abbrev pub tries_at : RunState → ℕ → ℕ → PortRange
tries_at w at output = let e = element_at w at in tries e.inputs e.state output

-- a packet p was pushed into an input: the run state, the packet and its outputs afterwards
pub record Acts (old new : RunState) (at input : ℕ) (p q : Packet) (to : PortRange) : Type 0 where
  pub run_state : new ≡ with_state old at (acted_at old at input p).state
  pub packet : q ≡ (acted_at old at input p).packet
  pub outputs : to ≡ (acted_at old at input p).outputs

-- a packet p was pulled through an input: the run state and the packet afterwards, the outputs that
-- get copies, and whether it is the answer
pub record GivesOut (old new : RunState) (at input : ℕ) (p q : Packet) (copies : PortRange) (answers : Bool) : Type 0 where
  pub run_state : new ≡ with_state old at (given_at old at input p).state
  pub packet : q ≡ (given_at old at input p).packet
  pub copies_are : copies ≡ (given_at old at input p).copies
  pub answers_is : answers ≡ (given_at old at input p).answers
