pub mod Numbers
pub mod Captures
