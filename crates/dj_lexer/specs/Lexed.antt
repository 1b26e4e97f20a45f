-- What contracts see of `Tokens`.
use Rattle.std.specs.Prelude.{ℕ, List}
use Rattle.dj_lexer.specs.declared.token.Token.{Token}

-- the tokens of a text in order, and the length of the text in bytes
pub record Lexed : Type 0 where
  pub list : List Token
  pub end : ℕ
