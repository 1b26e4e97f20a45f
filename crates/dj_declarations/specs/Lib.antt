pub mod Readings
pub mod Laws
pub mod View
pub mod Taking
