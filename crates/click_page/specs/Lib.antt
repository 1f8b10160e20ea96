pub mod Answering
pub mod Asking
pub mod Form
pub mod Lines
pub mod Metrics
pub mod Reads
pub mod Saying
pub mod kept
