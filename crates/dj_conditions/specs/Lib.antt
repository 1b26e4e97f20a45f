pub mod Conditions
pub mod NodeGates
pub mod Sets
