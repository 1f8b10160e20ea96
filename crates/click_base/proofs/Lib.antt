pub mod BlanksAround
pub mod ClassNames
pub mod Decimals
pub mod DigitNumbers
pub mod LastDot
pub mod NamePlaces
