pub mod Forms
pub mod Hashes
pub mod Joined
pub mod Layouts
pub mod Listed
pub mod Read
pub mod Sliced
pub mod Tabled
