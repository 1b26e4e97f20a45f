pub mod LineFaults
pub mod LeastPlace
pub mod Spots
pub mod Numbers
pub mod Inside
pub mod Places
pub mod Chains
