pub mod Lists
pub mod Sorting
pub mod Drawn
pub mod OpenedNet
