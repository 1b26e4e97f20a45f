pub mod Commands
pub mod JavaFiles
pub mod Answers
pub mod Outcomes
pub mod Headline
pub mod Laws
pub mod OneEach
