mod Changes
mod Finds
mod Held
mod Listings
mod Orders
mod Ranks
mod Rows
pub mod Seen
mod Sweeps
