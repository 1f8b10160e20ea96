-- Definitions that only the proofs of this crate use; no public contract cites them.
pub mod Forwarded
