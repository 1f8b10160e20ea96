pub mod RouterPort
pub mod Commands
pub mod LineWords
pub mod ReplyText
pub mod Serving
pub mod Taking
pub mod kept
