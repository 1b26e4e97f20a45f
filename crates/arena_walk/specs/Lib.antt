pub mod Tree
pub mod Forest
pub mod Slots
pub mod Walk
