pub mod Weights
pub mod OnceLemmas
pub mod ChainLaws
pub mod SpelledWeights
pub mod PlaceLaws
