pub mod Pieces
pub mod Changes
