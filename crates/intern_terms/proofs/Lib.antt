mod Names
mod Built
mod Trees
mod Collected
mod Walks
mod Opened
mod Heads
pub mod CallerTerms
