pub mod Entries
pub mod Writing
pub mod Appending
pub mod Formulas
pub mod Laws
