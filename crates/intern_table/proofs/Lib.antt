mod Joins
mod Moves
mod Walks
mod Tabled
