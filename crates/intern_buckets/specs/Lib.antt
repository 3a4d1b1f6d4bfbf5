pub mod Filling
pub mod Leading
pub mod Mixed
pub mod Probing
