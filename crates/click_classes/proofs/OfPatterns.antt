-- The patterns of classifiers: their clauses (`Clauses`), what these require of a packet's bytes
-- (`ClauseBytes`, `ClauseDigits`, `MaskedBytes`), and the steps that are made of them
-- (`ClauseSteps`, `StepLists`). Clauses read back from their text (`ClauseTexts`).
pub mod ClauseBytes
pub mod ClauseDigits
pub mod ClauseSteps
pub mod ClauseTexts
pub mod Clauses
pub mod MaskedBytes
pub mod StepLists
