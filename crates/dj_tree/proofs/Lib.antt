pub mod Tokens
pub mod ExampleLemmas
pub mod InForm
pub mod Orders
pub mod Growing
pub mod Filling
