-- The words and symbols of the grammar, as tokens with a place, and which words are names.
use Rattle.std.specs.Prelude.{◌≡◌, ℕ, Bool, false, List, [], ◌∷◌, codes}
use Rattle.std.specs.List.{list_any}
use Rattle.std.specs.Str.{bytes_eq}
use Rattle.dj_names.specs.Texts.{Text}
use Rattle.dj_lexer.specs.Symbols.{Symbol}
use Rattle.dj_lexer.specs.declared.token.TokenKind.TheVariants.{Word, Symbol as Sign}
use Rattle.dj_tree.specs.Trees.{Spot}

-- a word, and a bracket, mark or operator, with its place
abbrev pub word : Text → ℕ → Symbol
word text at = record { kind = Word; text = text; at = at }

abbrev pub sign : Text → ℕ → Symbol
sign text at = record { kind = Sign; text = text; at = at }

-- the token that says a name
abbrev pub named : Spot → Symbol
named x = word x.text x.at

-- the words that are no names
abbrev pub reserved_words : List Text
reserved_words =
    codes "abstract" ∷ codes "assert" ∷ codes "boolean" ∷ codes "break" ∷ codes "byte" ∷ codes "case" ∷ codes "catch"
    ∷ codes "char" ∷ codes "class" ∷ codes "const" ∷ codes "continue" ∷ codes "default" ∷ codes "do" ∷ codes "double"
    ∷ codes "else" ∷ codes "enum" ∷ codes "extends" ∷ codes "final" ∷ codes "finally" ∷ codes "float" ∷ codes "for"
    ∷ codes "goto" ∷ codes "if" ∷ codes "implements" ∷ codes "import" ∷ codes "instanceof" ∷ codes "int"
    ∷ codes "interface" ∷ codes "long" ∷ codes "native" ∷ codes "new" ∷ codes "package" ∷ codes "private"
    ∷ codes "protected" ∷ codes "public" ∷ codes "return" ∷ codes "short" ∷ codes "static" ∷ codes "strictfp"
    ∷ codes "super" ∷ codes "switch" ∷ codes "synchronized" ∷ codes "this" ∷ codes "throw" ∷ codes "throws"
    ∷ codes "transient" ∷ codes "try" ∷ codes "void" ∷ codes "volatile" ∷ codes "while" ∷ codes "true"
    ∷ codes "false" ∷ codes "null" ∷ []

unfoldable pub is_reserved : Text → Bool
is_reserved text = list_any (λ w. bytes_eq w text) reserved_words

-- a word is a name unless it is reserved
abbrev pub IsName : Spot → Type 0
IsName x = is_reserved x.text ≡ false
