-- Loops that read pieces up to a closing symbol, or up to the end.
use Rattle.std.proofs.Common.{◌≡◌, ℕ, ◌<◌, Bool, true, false, cond, List, [], ◌∷◌, ◌++◌, length, map, refl, sym, ap, ◌∙◌, arith}
use Rattle.std.specs.Prelude.{◌==◌}
use Rattle.std.proofs.lemmas.List.{map-append}
use Rattle.std.proofs.lemmas.Bool.{eqb-true}
use Rattle.dj_names.specs.Texts.{Text}
use Rattle.dj_lexer.specs.Symbols.{Symbol, symbol_of, symbols_of}
use Rattle.dj_lexer.specs.declared.token.Token.{Token}
use Rattle.dj_reader.specs.Terminals.{is_the_sign}
use Rattle.dj_reader.specs.Reading.{Outcome, got, fault, next}
use Rattle.dj_reader.specs.Answering.{Refuses}
use Rattle.dj_reader.specs.declared.reading.ReadError.{ReadError}
use Rattle.dj_reader.specs.declared.reading.ReadError.TheVariants.{Syntax, NoMemory}
use Rattle.dj_reader.specs.Combining.{a_sign, passes, until, to_end}
use Rattle.dj_reader.proofs.Loops.{with_front, Shrinks, goes_on, stops, ends, end_goes_on, end_stops, end_ends}
use Rattle.dj_declarations.proofs.Fewer.{as_many}

-- each piece takes a token
pub token_taken : {X : Type 0} {piece : List Symbol → Outcome X} → Shrinks piece → (bytes : List ℕ) (tokens rest : List Token) (x : X) → piece (symbols_of bytes tokens) ≡ got x (symbols_of bytes rest)
    → length rest < length tokens
token_taken shrinking bytes tokens rest x e =
    let less = shrinking (symbols_of bytes tokens) (symbols_of bytes rest) x e in omega (arith, less, as_many bytes tokens, as_many bytes rest)

-- a symbol that is taken passed its test
test_passed : (b : Bool) (s : Symbol) (symbols rest : List Symbol) (at : ℕ) → cond b (got s.at symbols) (fault (s ∷ symbols)) ≡ got at rest → (b ≡ true) × (symbols ≡ rest)
test_passed true s symbols rest at e = (refl, cc)
test_passed false s symbols rest at e = absurd cc

module _ {X Y : Type 0} (view : X → Y) (text : Text) (piece : List Symbol → Outcome Y) (shrinking : Shrinks piece) (empty : piece [] ≡ fault []) where
  pub piece_goes : (front : List X) (x : X) (symbols rest : List Symbol) (total : Outcome (List Y)) → passes (is_the_sign text) (next symbols) ≡ false → piece symbols ≡ got (view x) rest
      → with_front (map view front) (until (is_the_sign text) piece symbols) ≡ total → with_front (map view (front ++ x ∷ [])) (until (is_the_sign text) piece rest) ≡ total
  piece_goes front x symbols rest total h e so =
      ap (λ (ys : List Y). with_front ys (until (is_the_sign text) piece rest)) (map-append view front (x ∷ []))
      ∙ goes_on (is_the_sign text) piece shrinking empty (map view front) symbols rest (view x) total h e so

  pub piece_refused : (bytes : List ℕ) (error : ReadError) (front : List Y) (symbols : List Symbol) (total : Outcome (List Y)) → passes (is_the_sign text) (next symbols) ≡ false
      → Refuses bytes error (piece symbols) → with_front front (until (is_the_sign text) piece symbols) ≡ total → Refuses bytes error total
  piece_refused bytes (Syntax rest) front symbols total h e so = stops (is_the_sign text) piece shrinking empty front symbols (symbols_of bytes rest.now) total h e so
  piece_refused bytes NoMemory front symbols total h e so = tt

  pub pieces_close : (front : List Y) (symbols rest : List Symbol) (at : ℕ) (total : Outcome (List Y)) → a_sign text symbols ≡ got at rest
      → with_front front (until (is_the_sign text) piece symbols) ≡ total → total ≡ got front rest
  pieces_close front [] rest at total e so = absurd cc
  pieces_close front (s ∷ symbols) rest at total e so =
      let taken = test_passed (is_the_sign text s) s symbols rest at e in
      ends (is_the_sign text) piece shrinking empty front s symbols total taken.0 so ∙ ap (λ (l : List Symbol). got front l) taken.1

module _ {X Y : Type 0} (view : X → Y) (piece : List Symbol → Outcome Y) (shrinking : Shrinks piece) where
  pub end_piece_goes : (bytes : List ℕ) (front : List X) (x : X) (tokens rest : List Token) (total : Outcome (List Y)) → false ≡ (length tokens == 0)
      → piece (symbols_of bytes tokens) ≡ got (view x) (symbols_of bytes rest) → with_front (map view front) (to_end piece (symbols_of bytes tokens)) ≡ total
      → with_front (map view (front ++ x ∷ [])) (to_end piece (symbols_of bytes rest)) ≡ total
  end_piece_goes bytes front x [] rest total some e so = absurd (let impossible : false ≡ true = some in cc)
  end_piece_goes bytes front x (t ∷ tokens) rest total some e so =
      ap (λ (ys : List Y). with_front ys (to_end piece (symbols_of bytes rest))) (map-append view front (x ∷ []))
      ∙ end_goes_on piece shrinking (map view front) (symbol_of bytes t) (symbols_of bytes tokens) (symbols_of bytes rest) (view x) total e so

  end_refused : (bytes : List ℕ) (error : ReadError) (front : List Y) (s : Symbol) (symbols : List Symbol) (total : Outcome (List Y)) → Refuses bytes error (piece (s ∷ symbols))
      → with_front front (to_end piece (s ∷ symbols)) ≡ total → Refuses bytes error total
  end_refused bytes (Syntax rest) front s symbols total e so = end_stops piece shrinking front s symbols (symbols_of bytes rest.now) total e so
  end_refused bytes NoMemory front s symbols total e so = tt

  pub end_piece_refused : (bytes : List ℕ) (error : ReadError) (front : List Y) (tokens : List Token) (total : Outcome (List Y)) → false ≡ (length tokens == 0)
      → Refuses bytes error (piece (symbols_of bytes tokens)) → with_front front (to_end piece (symbols_of bytes tokens)) ≡ total → Refuses bytes error total
  end_piece_refused bytes error front [] total some e so = absurd (let impossible : false ≡ true = some in cc)
  end_piece_refused bytes error front (t ∷ tokens) total some e so = end_refused bytes error front (symbol_of bytes t) (symbols_of bytes tokens) total e so

  pub pieces_end : (bytes : List ℕ) (front : List Y) (tokens : List Token) (total : Outcome (List Y)) → true ≡ (length tokens == 0) → with_front front (to_end piece (symbols_of bytes tokens)) ≡ total
      → total ≡ got front (symbols_of bytes tokens)
  pieces_end bytes front [] total none so = end_ends piece shrinking front total so
  pieces_end bytes front (t ∷ tokens) total none so = let zero_long = eqb-true (length (t ∷ tokens)) 0 (sym none) in absurd (omega (arith, zero_long))
