pub mod Drawn
pub mod Measures
pub mod Picture
pub mod Svg
pub mod kept
