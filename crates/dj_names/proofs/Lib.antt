pub mod DistinctTexts
pub mod Lines
pub mod Extending
