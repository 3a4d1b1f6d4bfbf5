pub mod Along
pub mod Ledger
pub mod Runs
pub mod Steps
pub mod Swept
pub mod Worlds
