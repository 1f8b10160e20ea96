-- Misuses: those of names and classes (`ScopeNameFaults`, `PlaceNameFaults`, `FirstNameFault`) and
-- those of compounds (`PlaceCompoundFaults`). They are those of the configuration (`WrongUses`),
-- and the first one is found (`LeastWrongUse`, `FirstWrongUse`).
pub mod FirstNameFault
pub mod FirstWrongUse
pub mod LeastWrongUse
pub mod PlaceCompoundFaults
pub mod PlaceNameFaults
pub mod ScopeNameFaults
pub mod WrongUses
