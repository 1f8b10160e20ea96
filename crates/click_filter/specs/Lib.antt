pub mod Packets
pub mod Tests
pub mod Trees
pub mod Programs
pub mod Rules
pub mod kept
