mod CommandCalls
pub mod FieldSequences
mod Hosts
mod QueryPairs
mod RequestAnswers
mod RequestLaws
pub mod Texts
pub mod WholeNumbers
