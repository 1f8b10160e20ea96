-- Definitions that only the proofs of this crate use.
pub mod Calls
