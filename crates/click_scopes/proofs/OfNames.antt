-- Names of classes: what words mean (`WordMeanings`), and the synonyms (`Synonyms`).
pub mod Synonyms
pub mod WordMeanings
