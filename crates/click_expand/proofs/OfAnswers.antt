-- From the tables of a sound configuration to its result: its flat form, or a passed limit
-- (`FormOrFault`, `FlatForms`). Also the first element that is refused (`FirstRefusal`), and the
-- token that its fault names (`Tokens`).
pub mod FirstRefusal
pub mod FlatForms
pub mod FormOrFault
pub mod Tokens
