pub mod JavaFaults
pub mod Refusals
pub mod Sayable
