pub mod Forests
pub mod Opening
pub mod Headings
pub mod VersionsApart
pub mod Building
pub mod Flattened
pub mod NoMethods
