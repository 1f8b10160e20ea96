-- Lemmas about pushes and pulls on the transfer stack, frame by frame.
--
-- They are about the slots (`SlotFrames`), the first frame (`FirstFrames`), one engine turn
-- (`FrameTurns`, `PushTurns`, `PullTurns`), and several turns (`PushFrames`, `OutputFrames`,
-- `PulledInputs`).
pub mod FirstFrames
pub mod FrameTurns
pub mod OutputFrames
pub mod PullTurns
pub mod PulledInputs
pub mod PushFrames
pub mod PushTurns
pub mod SlotFrames
