pub mod OneAnswer
pub mod Stages
pub mod Placed
pub mod FaultSpots
pub mod LexPlaces
pub mod Sayable
