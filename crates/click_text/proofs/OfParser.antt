-- The parser's state machine and the grammar: the steps of the machine (`ParserSteps`,
-- `StateTokens`), from the grammar to the machine (`GrammarRuns`) and back (`Completions`,
-- `OpenStates`, `RunOutcomes`). Both accept the same texts (`GrammarEquality`), and each text has
-- one tree or one first fault (`OneFault`, `TextOutcome`, `OneAnswer`).
pub mod Completions
pub mod GrammarEquality
pub mod GrammarRuns
pub mod OneAnswer
pub mod OneFault
pub mod OpenStates
pub mod ParserSteps
pub mod RunOutcomes
pub mod StateTokens
pub mod TextOutcome
