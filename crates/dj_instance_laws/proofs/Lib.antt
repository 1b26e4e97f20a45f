pub mod Told
pub mod TableTold
pub mod LineTold
pub mod Symbols
