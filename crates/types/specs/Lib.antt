pub mod Environment
pub mod Founded
pub mod Growing
pub mod Tree
pub mod Types
pub mod Unifying
