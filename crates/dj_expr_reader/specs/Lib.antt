pub mod Marks
pub mod Machine
pub mod Laws
pub mod View
