pub mod PieceLemmas
pub mod AnswerLemmas
pub mod FrontLemmas
pub mod LexerLemmas
pub mod TotalLemmas
pub mod TokenAtLemmas
