pub mod Owned
pub mod Overrides
pub mod Overlays
pub mod Lineages
