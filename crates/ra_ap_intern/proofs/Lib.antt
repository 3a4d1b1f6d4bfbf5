mod Answered
mod Births
pub mod CallerCollections
pub mod CallerCounts
pub mod CallerInterning
pub mod CallerLemmas
pub mod CallerMaps
pub mod CallerOrder
pub mod CallerOutcomes
pub mod CallerPresets
pub mod CallerReads
pub mod CallerRoots
pub mod CallerSlices
pub mod CallerStates
pub mod CallerSymbols
pub mod CallerTrees
pub mod CallerViews
pub mod CallerWalks
mod Collections
mod Entries
mod Following
pub mod InTurn
mod Learning
mod Listings
mod Pairs
mod Registering
mod Tables
mod Texts
pub mod Visitors
