pub mod Names
pub mod Values
pub mod PushedGates
pub mod GateFeatures
