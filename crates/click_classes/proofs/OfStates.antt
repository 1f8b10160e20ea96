-- The states of elements: the first state (`FirstStates`, `OneFirstState`), the settings that
-- packets keep (`StateSettings`), and what is taken over (`StateTakeOver`).
pub mod FirstStates
pub mod OneFirstState
pub mod StateSettings
pub mod StateTakeOver
