-- Definitions that only the crate's own proofs use. No public contract cites them.
pub mod Asked
pub mod Transfers
pub mod Slots
pub mod Sums
pub mod Tables
pub mod Taking
pub mod Tasks
