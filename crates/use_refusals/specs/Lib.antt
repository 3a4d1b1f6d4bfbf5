pub mod Both
pub mod WordError
