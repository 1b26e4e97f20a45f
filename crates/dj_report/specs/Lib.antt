pub mod Join
pub mod Places
pub mod Refusals
pub mod Rules
pub mod Answers
pub mod Laws
pub mod WordTexts
