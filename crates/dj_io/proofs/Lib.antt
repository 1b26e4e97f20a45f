pub mod Counts
mod Left
mod Places
