pub mod OneTokenList
pub mod OneTree
pub mod ChainParts
pub mod Negations
pub mod OpenLimits
pub mod RuleReading
