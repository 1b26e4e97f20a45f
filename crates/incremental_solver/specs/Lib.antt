pub mod Answers
pub mod Inquiries
pub mod Sessions
