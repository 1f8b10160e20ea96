-- One push or pull over a connection.
use Rattle.std.specs.Prelude.{◌≡◌, ℕ, ◌+◌, ◌*◌, ◌<◌, ◌≤◌, List, Bool, true, false, Some, None, MatchOption, nat_lt, if◌then◌else◌, [], IsTrue, IsSome, ◌↔◌}
use Rattle.click_classes.specs.Acts.{burst_of, emission, stored}
use Rattle.click_classes.specs.declared.packet_effects.PortRange.{PortRange}
use Rattle.click_packet.specs.Packet.{Packet}
use Rattle.click_engine.specs.RunState.{Wiring, RunState, Acts, but_last, element_at, overrun, tries_at, with_state}
use Rattle.click_engine.specs.declared.run_state.ConnectionEnd.{ConnectionEnd}
use Rattle.click_engine.specs.declared.run_state.Element.{Element}
use Rattle.click_engine.specs.Run.{push, pull, sent, asked}
use Rattle.click_engine.specs.declared.transfers.PullResult.{PullResult}
use Rattle.click_engine.specs.declared.transfer_stack.PushFrame.{PushFrame}
use Rattle.click_engine.specs.Frames.{TransferStack}

-- a run state, by its elements and the Idle after them, the crossings left and the overruns
abbrev pub run_state_with : List Element → ℕ → ℕ → RunState
run_state_with elements left lost = record { elements = but_last elements; left = left; overruns = lost }

-- the run state after some steps for which the crossings were enough, or which needed one more
abbrev pub run_state_after : Bool → List Element → ℕ → ℕ → RunState
run_state_after enough elements left lost = if enough then run_state_with elements left lost else overrun (run_state_with elements left lost)

-- a packet was pushed into an element: the elements, the packet and its outputs afterwards
pub record ActsIn (old new : List Element) (at input : ℕ) (p q : Packet) (to : PortRange) : Type 0 where
  pub acts : (left lost : ℕ) → Acts (run_state_with old left lost) (run_state_with new left lost) at input p q to

-- after a push, `count` outputs of the element `far`, from `first` on, still get the packet q
pub record Pushed (net : Wiring) (w v : RunState) (at output : ℕ) (p : Packet) (far first count : ℕ) (q : Packet) : Type 0 where
  pub made : sent net v.left far q count first v ≡ push net w.left w at output p
  pub fewer : v.left ≤ w.left
  pub one : w.left ≤ v.left + 1
  pub spends : 0 < count → v.left < w.left
  pub few : count < 65536

-- a packet was pushed on by some steps: what is left to do has the result of what was to do before,
-- and is not more
pub record Along (net : Wiring) (w v : RunState) (at first count : ℕ) (p : Packet) (far next still : ℕ) (q : Packet) : Type 0 where
  pub made : sent net v.left far q still next v ≡ sent net w.left at p count first w
  pub fewer : v.left ≤ w.left
  pub falls : still + 131072 * v.left ≤ count + 131072 * w.left
  pub more : 1 < still → count ≡ 1 → still + 131072 * v.left < 131072 * w.left

-- The packet of s was pushed at some of its outputs, one after another. What is left of s is t, and
-- what is left of the last of these pushes is u.
pub record Served (net : Wiring) (w v : RunState) (s t u : PushFrame) : Type 0 where
  pub made : (let x = sent net v.left u.at u.packet u.count u.first v in sent net x.left t.at t.packet t.count t.first x) ≡ sent net w.left s.at s.packet s.count s.first w
  pub packet : t.packet ≡ s.packet
  pub fewer : v.left ≤ w.left
  pub falls : t.count + 131072 * v.left ≤ s.count + 131072 * w.left
  pub spends : 0 < u.count → v.left < w.left
  pub more : 0 < u.count → u.count + t.count + 1 + 131072 * v.left ≤ s.count + 131072 * w.left

-- a pull reached an output: it has the packet that was stored there, or the inputs that are asked
pub record ReachesIn (w v : RunState) (far : ConnectionEnd) (p : Packet) (r : PullResult) : Type 0 where
  pub reached : MatchOption (stored (element_at w far.element).state)
      ((r.is_answered ≡ false) × (v ≡ w) × (r.at ≡ far.element) × (r.inputs ≡ (element_at w far.element).inputs)
      × (r.count ≡ (tries_at w far.element far.port).count) × (r.first ≡ (tries_at w far.element far.port).first))
      (λ s. (r.is_answered ≡ true) × (r.count ≡ 0) × (s.packet ≡ p) × (v ≡ with_state w far.element s.state))

-- a source emitted the first packet of its task, which emits `most` packets at most; it emitted
-- none if `most` is 0
abbrev pub EmitsFirst : RunState → RunState → ℕ → Packet → ℕ → Type 0
EmitsFirst w v at p most =
    let s = (element_at w at).state in
    MatchOption (if nat_lt 0 (burst_of s) then emission s else None) ((most ≡ 0) × (v ≡ w)) (λ e. (most ≡ burst_of s) × (e.packet ≡ p) × (v ≡ with_state w at e.state))

-- a pull was answered by the packet p, or led to inputs that an element asks, or to none
pub record Reached (net : Wiring) (w v : RunState) (at input : ℕ) (p : Packet) (r : PullResult) : Type 0 where
  pub made : (if r.is_answered then record { run_state = v; packet = Some p } else asked net v.left r.at r.inputs r.count r.first v) ≡ pull net w.left w at input
  pub fewer : v.left ≤ w.left
  pub one : w.left ≤ v.left + 1
  pub spends : 0 < r.count → v.left < w.left
  pub few : r.count < 65536
  pub alone : 0 < r.count → r.is_answered ≡ false

-- a whole pull was made: no frame is left, and its answer is that of the stack, if it has one
pub record HasPulled (net : Wiring) (w v : RunState) (old new : TransferStack) (at : ℕ) (answered : Bool) : Type 0 where
  pub made : pull net w.left w at 0 ≡ record { run_state = v; packet = new.last }
  pub answered_is : IsTrue answered ↔ IsSome new.last
  pub done : new.frames ≡ []
  pub room : new.room ≡ old.room
  pub fewer : v.left ≤ w.left
