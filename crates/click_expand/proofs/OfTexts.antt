-- Texts with their parameters replaced: the parameters in a text (`ParameterItems`), their values
-- (`ParameterMeanings`, `ParameterParents`), writing a text (`TextParts`, `TextBuffer`), and the
-- elements that have the texts (`ElementTexts`).
pub mod ElementTexts
pub mod ParameterItems
pub mod ParameterMeanings
pub mod ParameterParents
pub mod TextBuffer
pub mod TextParts
