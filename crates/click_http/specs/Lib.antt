pub mod Accepting
pub mod Addresses
pub mod Ends
pub mod Leading
pub mod Phases
pub mod Readiness
pub mod Steps
pub mod Waiting
