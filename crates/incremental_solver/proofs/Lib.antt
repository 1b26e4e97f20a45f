mod AssumptionLemmas
mod GrowthLemmas
