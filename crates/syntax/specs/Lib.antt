pub mod Lexeme
pub mod Machine
pub mod Frames
pub mod Parsing
pub mod Printing
pub mod Pieces
pub mod Changes
