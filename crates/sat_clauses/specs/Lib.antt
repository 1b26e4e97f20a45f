pub mod Literals
pub mod ClauseLists
pub mod Derivations
pub mod Laws
pub mod Resolvents
