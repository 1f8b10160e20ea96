pub mod Devices
pub mod Peers
