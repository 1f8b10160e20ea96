pub mod OfAnswers
pub mod OfConnections
pub mod OfFlatText
pub mod OfInstances
pub mod OfLaws
pub mod OfTexts
pub mod OfUniqueness
