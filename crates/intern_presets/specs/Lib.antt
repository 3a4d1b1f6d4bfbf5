pub mod Numbers
pub mod Presets
pub mod Slots
pub mod Table
