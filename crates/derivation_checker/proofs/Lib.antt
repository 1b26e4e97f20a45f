pub mod StepLemmas
pub mod FaultLemmas
