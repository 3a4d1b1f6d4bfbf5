pub mod Answer
pub mod Held
pub mod Parts
pub mod Step
pub mod World
