pub mod PatternNodes
pub mod StepValues
pub mod RuleLists
