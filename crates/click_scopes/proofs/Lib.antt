pub mod OfBodies
pub mod OfConnections
pub mod OfElements
pub mod OfFaults
pub mod OfLists
pub mod OfNames
