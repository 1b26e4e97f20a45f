pub mod Said
pub mod Growth
pub mod Resolved
pub mod Refusals
