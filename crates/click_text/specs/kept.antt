-- Internal definitions: no public contract cites them.
pub mod EndFault
pub mod LongItems
pub mod ParserStates
pub mod PartialArgument
pub mod SingleBytePieces
pub mod Unescaping
