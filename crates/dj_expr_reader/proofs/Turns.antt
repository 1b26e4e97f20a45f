-- The machine goes on behind a token.
use Rattle.std.proofs.Common.{◌≡◌, ℕ, ◌+◌, ◌-◌, ◌≤◌, List, [], ◌∷◌, length, take, drop, get_or, refl, ap, ◌∙◌, arith}
use Rattle.std.proofs.Math.Seq.{take-length}
use Rattle.dj_lexer.specs.Symbols.{symbol_of, symbols_of}
use Rattle.dj_lexer.specs.declared.token.Dialect.{Dialect}
use Rattle.dj_lexer.specs.declared.token.Token.{Token}
use Rattle.dj_expr_reader.specs.Marks.{Mark}
use Rattle.dj_expr_reader.specs.Machine.{Frame, Mode, go, step, run}

others : {A : Type 0} (x : A) (rest : List A) → take (length (x ∷ rest) - 1) rest ≡ rest
others x rest = let same : length (x ∷ rest) - 1 ≡ length rest = omega arith in ap (λ n. take n rest) same ∙ take-length rest

pub goes_on : (bytes : List ℕ) (d : Dialect) (mode later : Mode) (frames frames_then : List Frame) (marks marks_then : List Mark) (rest : List Token) (default : Token) → 1 ≤ length rest
    → step d mode frames marks (symbol_of bytes (get_or rest 0 default)) ≡ go later frames_then marks_then
    → run d mode frames marks (symbols_of bytes rest) ≡ run d later frames_then marks_then (symbols_of bytes (take (length rest - 1) (drop 1 rest)))
goes_on bytes d mode later frames frames_then marks marks_then [] default l e = absurd (omega (arith, l))
goes_on bytes d mode later frames frames_then marks marks_then (token ∷ rest) default l e =
    let stepped : step d mode frames marks (symbol_of bytes token) ≡ go later frames_then marks_then = e in
    let whole : take (length (token ∷ rest) - 1) (drop 1 (token ∷ rest)) ≡ rest = others token rest in
    rw (stepped, whole) refl

pub one_less : {A : Type 0} (rest : List A) → 1 ≤ length rest → length (take (length rest - 1) (drop 1 rest)) + 1 ≡ length rest
one_less [] l = absurd (omega (arith, l))
one_less (x ∷ rest) l =
    let whole : take (length (x ∷ rest) - 1) (drop 1 (x ∷ rest)) ≡ rest = others x rest in
    ap (λ xs. length xs + 1) whole ∙ omega arith
