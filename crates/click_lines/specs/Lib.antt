pub mod Digits
pub mod Kinds
pub mod Lines
pub mod Reading
pub mod ReplyLine
pub mod Spelling
