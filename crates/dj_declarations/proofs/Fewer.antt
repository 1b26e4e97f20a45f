-- What is left behind what was read is no more than there was.
use Rattle.std.proofs.Common.{◌≡◌, ℕ, ◌+◌, ◌≤◌, List, Option, length, ap, ◌∙◌, length-append, arith}
use Rattle.std.proofs.lemmas.List.{length-map}
use Rattle.dj_lexer.specs.Symbols.{Symbol, symbol_of, symbols_of}
use Rattle.dj_lexer.specs.declared.token.Token.{Token}
use Rattle.dj_reader.specs.Reading.{Outcome, got, IsReader}

-- as many symbols as tokens
pub as_many : (bytes : List ℕ) (tokens : List Token) → length (symbols_of bytes tokens) ≡ length tokens
as_many bytes tokens = length-map tokens (symbol_of bytes)

pub fewer_left : {X : Type 0} {Spells : List Symbol → X → Type 0} {read : List Symbol → Outcome X} {Follows : Option Symbol → Type 0} → IsReader Spells Follows read → (bytes : List ℕ) (tokens rest : List Token) (x : X)
    → read (symbols_of bytes tokens) ≡ got x (symbols_of bytes rest) → length rest ≤ length tokens
fewer_left is bytes tokens rest x e =
    let t = is.sound (symbols_of bytes tokens) (symbols_of bytes rest) x e in
    let whole : length (symbols_of bytes tokens) ≡ length t.front + length (symbols_of bytes rest) = ap length t.joined ∙ length-append t.front (symbols_of bytes rest) in
    omega (arith, whole, as_many bytes tokens, as_many bytes rest)
