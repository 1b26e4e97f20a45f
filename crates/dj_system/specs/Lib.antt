pub mod OpenFile
pub mod Holding
