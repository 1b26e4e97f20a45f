pub mod WordAnswers
pub mod JavaSayable
pub mod JavaAnswers
pub mod OneAnswer
pub mod Answering
pub mod Refusing
pub mod Statuses
pub mod Headline
