pub mod Doors
pub mod Gates
pub mod Seats
pub mod Work
pub mod Runs
pub mod Beside
pub mod Linked
