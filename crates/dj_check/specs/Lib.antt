pub mod Choices
pub mod Small
