pub mod OfArguments
pub mod OfItems
pub mod OfParser
pub mod OfPieces
