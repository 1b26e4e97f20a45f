pub mod Gates
pub mod Value
