-- Definitions that only the crate's own proofs use. No public contract cites them.
pub mod GlobalNames
pub mod Refused
