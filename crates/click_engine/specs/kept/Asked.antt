-- Inputs that were asked one after another.
use Rattle.std.specs.Prelude.{◌≡◌, ℕ, ◌<◌, List, [], ◌∷◌, Some, None, if◌then◌else◌, nat_lt, false}
use Rattle.click_packet.specs.Packet.{Packet}
use Rattle.click_engine.specs.RunState.{Wiring, RunState}
use Rattle.click_engine.specs.Frames.{Frame, Asks, Follows}
use Rattle.click_engine.specs.declared.input_scan.InputScan.{InputScan}
use Rattle.click_engine.specs.declared.transfers.PullResult.{PullResult}

-- the numbers of the scan fit in 16 bits
abbrev pub IsSmall : InputScan → Type 0
IsSmall a = (a.inputs < 65536) × (a.count < 65536) × (a.input < 65536) × (a.back < 65536)

abbrev pub asks_now : InputScan → Frame
asks_now a = Asks a.at a.inputs a.count a.input a.back

-- the frames after the last input that was asked had this result
abbrev pub frames_with : PullResult → InputScan → List Frame
frames_with r a = if nat_lt 0 r.count then Asks r.at r.inputs r.count r.first 0 ∷ asks_now a ∷ [] else asks_now a ∷ []

-- The scan s asked inputs and is t now, and r is the result of the last input. Either this input
-- answered, or it leads to further inputs, or no input is left to ask.
pub record Asked (net : Wiring) (w v : RunState) (s t : InputScan) (p : Packet) (r : PullResult) : Type 0 where
  pub follows : (room : ℕ) → w.left < room → Follows net w (record { frames = asks_now s ∷ []; last = None; room = room }) v
      (record { frames = frames_with r t; last = if r.is_answered then Some p else None; room = room })
  pub alone : 0 < r.count → r.is_answered ≡ false
  pub over : r.is_answered ≡ false → r.count ≡ 0 → t.count ≡ 0
