-- The texts of tokens are UTF-8.
use Rattle.std.proofs.Common.{◌≡◌, ℕ, Bool, true, false, List, [], ◌∷◌, ◌++◌, refl, sym}
use Rattle.std.specs.Prelude.{All, ◌&&◌}
use Rattle.std.specs.List.{AllByRecursion}
use Rattle.std.specs.Str.{all_scalars}
use Rattle.std.proofs.lemmas.Str.{scalars-chars}
use Rattle.std.proofs.lemmas.List.Elements.{All-from_recursion}
use Rattle.dj_lexer.specs.Tokens as tokens
use Rattle.dj_lexer.specs.Tokens.{TokensFrom, TokenList}
use Rattle.dj_lexer.specs.Symbols.{symbols_of}
use Rattle.dj_lexer.specs.declared.token.Dialect.{Dialect}
use Rattle.dj_lexer.specs.declared.token.Token.{Token}
use Rattle.dj_lexer.proofs.AnswerLemmas.{Placed, placed_start, placed_piece, placed_after}
use Rattle.dj_parser.proofs.SaidLemmas.{HasText}

first_of_both : (a b : Bool) → (a && b) ≡ true → a ≡ true
first_of_both true b e = refl
first_of_both false b e = e

second_of_both : (a b : Bool) → (a && b) ≡ true → b ≡ true
second_of_both true b e = e
second_of_both false b e = absurd cc

scalars_front : (p r : List ℕ) → all_scalars (p ++ r) ≡ true → all_scalars p ≡ true
scalars_front [] r e = refl
scalars_front (c ∷ p) r e =
    let first = first_of_both _ (all_scalars (p ++ r)) e in rw (first, scalars_front p r (second_of_both _ (all_scalars (p ++ r)) e)) refl

scalars_back : (p r : List ℕ) → all_scalars (p ++ r) ≡ true → all_scalars r ≡ true
scalars_back [] r e = e
scalars_back (c ∷ p) r e = scalars_back p r (second_of_both _ (all_scalars (p ++ r)) e)

each_has_text : {dialect : Dialect} {at : ℕ} {text : List ℕ} {ts : List Token} (bytes : List ℕ) → TokensFrom dialect at text ts → all_scalars text ≡ true → Placed bytes at text
    → AllByRecursion HasText (symbols_of bytes ts)
each_has_text bytes (tokens.end at) e w = tt
each_has_text bytes (tokens.skipped at p r ts x y) e w = each_has_text bytes y (scalars_back p r e) (placed_after bytes at p r w)
each_has_text bytes (tokens.token at k p r ts x y) e w =
    ((p, (scalars_front p r e, sym (placed_piece bytes at p r w))), each_has_text bytes y (scalars_back p r e) (placed_after bytes at p r w))

pub tokens_have_texts : (dialect : Dialect) (bytes : List ℕ) (ts : List Token) → TokenList dialect bytes ts → All HasText (symbols_of bytes ts)
tokens_have_texts dialect bytes ts t =
    All-from_recursion HasText (symbols_of bytes ts) (each_has_text bytes t.1 (scalars-chars bytes t.0) (placed_start bytes t.0))
