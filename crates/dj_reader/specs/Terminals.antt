-- Tests on a single symbol.
use Rattle.std.specs.Prelude.{Bool, true, false, ◌&&◌, not}
use Rattle.std.specs.Str.{bytes_eq}
use Rattle.dj_names.specs.Texts.{Text}
use Rattle.dj_lexer.specs.Symbols.{Symbol}
use Rattle.dj_lexer.specs.declared.token.TokenKind.{TokenKind}
use Rattle.dj_lexer.specs.declared.token.TokenKind.TheVariants.{Word, Symbol as Sign}
use Rattle.dj_tree.specs.Words.{is_reserved}
use Rattle.dj_tree.specs.Trees.{Spot}

abbrev pub is_word_kind : TokenKind → Bool
is_word_kind Word = true
is_word_kind Sign = false

-- the symbol is this word, this bracket, mark or operator, or a name
abbrev pub is_the_word : Text → Symbol → Bool
is_the_word text s = is_word_kind s.kind && bytes_eq s.text text

abbrev pub is_the_sign : Text → Symbol → Bool
is_the_sign text s = not (is_word_kind s.kind) && bytes_eq s.text text

abbrev pub is_a_name : Symbol → Bool
is_a_name s = is_word_kind s.kind && not (is_reserved s.text)

-- what a symbol says, with its place
abbrev pub spot_of : Symbol → Spot
spot_of s = record { text = s.text; at = s.at }
