pub mod Symbols
pub mod Laws
pub mod Repeating
pub mod ToEnd
pub mod Pieces
pub mod Loops
