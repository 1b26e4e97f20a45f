pub mod Facts
mod ApartLemmas
mod PathLemmas
mod RingLemmas
mod WalkLemmas
mod LinkLemmas
mod WatchLemmas
mod MoveLemmas
