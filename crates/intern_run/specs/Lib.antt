pub mod Answers
pub mod FaultLine
pub mod Lines
pub mod Served
pub mod Slots
pub mod Told
pub mod Watching
pub mod Writing
