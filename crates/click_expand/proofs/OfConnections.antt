-- The connections between flat elements. The connections of a scope are indexed by their source
-- ports (`PortEquality`, `ConnectionIndex`), and searched (`ConnectionOrder`, `PortSearch`,
-- `OutputSearches`). Pass-through inputs are in `PassthroughSearch`, `ShortcutLists`,
-- `PortStandIns` and `ShortcutIndices`. That the connections found are the written ones is in
-- `Chains`, `SearchSteps`, `NestedInstances`, `Shortcuts` and `FlatConnections`.
pub mod Chains
pub mod ConnectionIndex
pub mod ConnectionOrder
pub mod FlatConnections
pub mod NestedInstances
pub mod OutputSearches
pub mod PassthroughSearch
pub mod PortEquality
pub mod PortSearch
pub mod PortStandIns
pub mod SearchSteps
pub mod ShortcutIndices
pub mod ShortcutLists
pub mod Shortcuts
