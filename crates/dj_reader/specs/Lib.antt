pub mod Terminals
pub mod Reading
pub mod Answering
pub mod Combining
pub mod Stacks
