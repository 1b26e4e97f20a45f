pub mod Paths
pub mod Versions
pub mod Keeping
