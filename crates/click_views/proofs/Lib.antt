pub mod Prefixes
pub mod Steps
pub mod Beginnings
pub mod Boards
