pub mod TreeLemmas
pub mod ForestLemmas
pub mod SlotLemmas
pub mod WalkLemmas
pub mod Visitors
