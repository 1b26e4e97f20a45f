pub mod Trees
pub mod Stack
