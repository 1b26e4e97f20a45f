pub mod Once
pub mod Chains
pub mod Subtrees
pub mod Said
pub mod Places
pub mod Laws
