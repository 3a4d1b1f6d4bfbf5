mod Probing
mod Searching
