-- The frames of a packet run: the pushes and pulls in progress, the topmost first, and their
-- result.
use Rattle.std.specs.Prelude.{◌≡◌, ℕ, ◌+◌, ◌-◌, ◌*◌, ◌<◌, ◌≤◌, List, [], ◌∷◌, length, Bool, true, false, Option, Some, None}
use Rattle.click_packet.specs.Packet.{Packet}
use Rattle.click_classes.specs.Acts.{after}
use Rattle.click_engine.specs.RunState.{Wiring, RunState}
use Rattle.click_engine.specs.Run.{sent, pull, asked, given, Pulled}

pub data Frame : Type 0 where
  -- `count` outputs of the element `at`, from `first` on, are still to get the packet
  Sends : (at first count : ℕ) (packet : Packet) → Frame
  -- an input of the element `at` is still to be asked; its answer is the answer of this pull
  Pulls : (at input : ℕ) → Frame
  -- the element `at` asked its input `back` last; it asks up to `count` more inputs for a packet,
  -- from `input` on and cyclically
  Asks : (at inputs count input back : ℕ) → Frame

-- the frames, the topmost first; the answer of the last pull; and the number of frames that fit
pub record TransferStack : Type 0 where
  pub frames : List Frame
  pub last : Option Packet
  pub room : ℕ

-- the result of a frame after the result of the frames above it: a run state, and the answer of the
-- last pull
abbrev pub resume : Wiring → Frame → Pulled → Pulled
resume net (Sends at first count p) r = record { run_state = sent net r.run_state.left at p count first r.run_state; packet = r.packet }
resume net (Pulls at input) r = pull net r.run_state.left r.run_state at input
resume net (Asks at inputs count input back) r = elim r.packet [
  | None ↦ asked net r.run_state.left at inputs count input r.run_state
  | Some p ↦ given net r.run_state.left at r.run_state back p
]

-- the result of all frames, one after another, the topmost first
abbrev pub finish : Wiring → List Frame → Pulled → Pulled
finish net [] r = r
finish net (f ∷ below) r = finish net below (resume net f r)

abbrev pub complete : Wiring → RunState → TransferStack → Pulled
complete net w m = finish net m.frames (record { run_state = w; packet = m.last })

-- the frame with one output or input less to go
abbrev pub moved_on : Frame → Frame
moved_on (Sends at first count p) = Sends at (first + 1) (count - 1) p
moved_on (Pulls at input) = Pulls at input
moved_on (Asks at inputs count input back) = Asks at inputs (count - 1) (after inputs input) input

-- the frame has at most one step left, given the answer of the last pull
abbrev pub AtLast : Option Packet → Frame → Type 0
AtLast last (Sends at first count p) = count ≤ 1
AtLast last (Pulls at input) = Unit {0}
AtLast None (Asks at inputs count input back) = count ≤ 0
AtLast (Some p) (Asks at inputs count input back) = Unit {0}

-- One engine turn does one of four things with the topmost frame. If the frame is at its last step,
-- the turn may end it or replace it by another one. Or the turn advances it, with or without a new
-- frame above it.
pub data Turned (old new : TransferStack) : Type 0 where
  ended : (f : Frame) (below : List Frame) → old.frames ≡ f ∷ below → AtLast old.last f → new.frames ≡ below → Turned old new
  handed_on : (f g : Frame) (below : List Frame) → old.frames ≡ f ∷ below → AtLast old.last f → new.frames ≡ g ∷ below → Turned old new
  moved : (f : Frame) (below : List Frame) → old.frames ≡ f ∷ below → new.frames ≡ moved_on f ∷ below → Turned old new
  begun : (f g : Frame) (below : List Frame) → old.frames ≡ f ∷ below → new.frames ≡ g ∷ moved_on f ∷ below → Turned old new

-- a bound of the steps that a frame has left, which is at most 2^17; each crossing begins at most
-- one frame
abbrev pub weight : Frame → ℕ
weight (Sends at first count p) = count + 1
weight (Pulls at input) = 1
weight (Asks at inputs count input back) = count + 65537

abbrev pub to_do : ℕ → List Frame → ℕ
to_do left [] = 131072 * left
to_do left (f ∷ below) = weight f + to_do left below

-- whether the topmost frame is a push
abbrev pub sends_first : List Frame → Bool
sends_first (Sends at first count p ∷ below) = true
sends_first fs = false

-- one engine turn
pub record IsTurn (net : Wiring) (w : RunState) (old : TransferStack) (v : RunState) (new : TransferStack) : Type 0 where
  pub keeps : complete net v new ≡ complete net w old
  pub step : Turned old new
  pub fewer : v.left ≤ w.left
  pub one : w.left ≤ v.left + 1
  pub room : new.room ≡ old.room
  pub fits : length new.frames + v.left ≤ new.room
  pub falls : to_do v.left new.frames < to_do w.left old.frames

-- any number of engine turns, or none
pub record Follows (net : Wiring) (w : RunState) (old : TransferStack) (v : RunState) (new : TransferStack) : Type 0 where
  pub keeps : complete net v new ≡ complete net w old
  pub fewer : v.left ≤ w.left
  pub room : new.room ≡ old.room
  pub fits : length new.frames + v.left ≤ new.room
  pub falls : to_do v.left new.frames ≤ to_do w.left old.frames
