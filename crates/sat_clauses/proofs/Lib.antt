pub mod SetLemmas
pub mod SoundLemmas
pub mod DerivationLemmas
pub mod ListLemmas
pub mod SlotLemmas
