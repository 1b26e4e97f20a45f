pub mod PostOrder
pub mod Texts
