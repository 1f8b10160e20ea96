pub mod Blanks
pub mod Classes
pub mod Dotted
pub mod NameLists
pub mod Numbers
