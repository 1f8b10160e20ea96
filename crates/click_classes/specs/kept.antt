pub mod Answers
pub mod KeepTests
pub mod Ranges
pub mod Ring
pub mod Rows
pub mod Masks
