pub mod DatagramFates
pub mod ForwarderEquations
pub mod Gifts
mod PacketAttempts
pub mod PacketTallies
pub mod TurnSequences
pub mod Zips
