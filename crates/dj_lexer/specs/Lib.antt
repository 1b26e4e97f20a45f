pub mod Lexed
pub mod Alphabet
pub mod Tokens
pub mod Symbols
pub mod Faults
pub mod Pieces
pub mod TokensAt
pub mod Laws
