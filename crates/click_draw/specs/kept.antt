pub mod Placing
pub mod Joined
pub mod Boxed
