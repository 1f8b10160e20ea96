pub mod Scopes
pub mod Classes
pub mod Elements
pub mod Faults
pub mod FaultText
pub mod Analysis
pub mod kept
