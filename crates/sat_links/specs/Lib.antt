pub mod Queues
pub mod Rings
pub mod Watches
pub mod Links
