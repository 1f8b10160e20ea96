pub mod Ports
pub mod Links
pub mod Kinds
pub mod Lawful
pub mod Breaches
pub mod FaultText
pub mod Net
pub mod kept
