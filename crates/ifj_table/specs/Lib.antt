pub mod Sorted
pub mod Entries
pub mod Held
pub mod Tables
pub mod Changes
pub mod Redeclared
pub mod Lookups
