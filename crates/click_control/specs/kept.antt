-- Definitions that only the proofs of this crate use.
pub mod Going
pub mod Lines
pub mod ReplyRef
pub mod Topics
