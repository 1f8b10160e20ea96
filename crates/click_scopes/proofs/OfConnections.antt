-- The connections of a scope (`ConnectionPairs`, `AllScopes`), the owners of their ends
-- (`EndOwners`), and the ports of bodies (`UsedPorts`, `BodyPortCounts`).
pub mod AllScopes
pub mod BodyPortCounts
pub mod ConnectionPairs
pub mod EndOwners
pub mod UsedPorts
