pub mod Handle
pub mod Store
pub mod Tree
pub mod Walk
