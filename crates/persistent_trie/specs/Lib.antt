pub mod Nodes
pub mod Versions
