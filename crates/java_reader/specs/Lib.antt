pub mod Making
pub mod Faults
pub mod Files
pub mod Laws
