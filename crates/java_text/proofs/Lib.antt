pub mod Putting
pub mod Parts
pub mod Receivers
pub mod Arguments
pub mod Nodes
pub mod Writing
pub mod Lines
