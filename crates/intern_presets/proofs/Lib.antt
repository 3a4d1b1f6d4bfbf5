pub mod Rising
pub mod Parsed
pub mod Computed
pub mod Standing
pub mod Finding
