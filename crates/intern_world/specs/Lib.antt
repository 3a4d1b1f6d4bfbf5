pub mod Along
pub mod Ledger
pub mod Run
