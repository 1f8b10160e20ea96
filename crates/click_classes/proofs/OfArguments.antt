-- The arguments of elements: a text has only one list of them (`OneArgumentList`). What they stand
-- for is in `ArgumentValues`, `ListParts`, `Groups` and `SixBytes`. The first separator of a text is
-- in `Separators`. Values and prefixes read back from their text (`ValueTexts`, `PrefixTexts`).
pub mod ArgumentValues
pub mod Groups
pub mod ListParts
pub mod OneArgumentList
pub mod PrefixTexts
pub mod Separators
pub mod SixBytes
pub mod ValueTexts
