pub mod Headers
pub mod Places
pub mod Quads
pub mod Sums
pub mod WordSums
