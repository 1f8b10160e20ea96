-- The arguments of a text: how they are read from the front (`ArgumentCuts`), that they are unique
-- (`OneArgumentList`), and that they join to the text (`JoinedArguments`). Also the bytes that they
-- stand for (`ArgumentQuotes`), their words and their text without comments
-- (`WordCuts`, `OneText`), and that a configuration string closes each quote that it opens
-- (`StringTexts`).
pub mod ArgumentCuts
pub mod ArgumentQuotes
pub mod JoinedArguments
pub mod OneArgumentList
pub mod OneText
pub mod StringTexts
pub mod WordCuts
