-- Lemmas about the router that a text opens: its names (`DistinctNames`) and its first states
-- (`FirstStates`); and that a text opens one state or has one fault (`OneOpening`, `OneFault`).
pub mod DistinctNames
pub mod FirstStates
pub mod OneFault
pub mod OneOpening
