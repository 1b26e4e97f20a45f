pub mod Overlaying
pub mod Owners
pub mod Overriding
pub mod Clashing
pub mod Turning
pub mod Telling
