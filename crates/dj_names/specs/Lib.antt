pub mod Texts
pub mod Place
