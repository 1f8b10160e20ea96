pub mod Parameters
pub mod Instances
pub mod Connections
pub mod FaultText
pub mod Flat
pub mod FlatText
pub mod OneScope
pub mod kept
