-- Loops that read pieces: what was read, in front of what is still read, is what all reads.
use Rattle.std.proofs.Common.{◌≡◌, ℕ, zero, suc, ◌+◌, ◌≤◌, ◌<◌, Bool, true, false, cond, List, [], ◌∷◌, ◌++◌, length, refl, sym, ap, ◌∙◌, append_assoc, length-append, arith}
use Rattle.std.proofs.lemmas.List.{append-nil}
use Rattle.dj_lexer.specs.Symbols.{Symbol}
use Rattle.dj_reader.specs.Reading.{Outcome, got, fault, next, IsReader, Anything}
use Rattle.dj_reader.specs.Combining.{and_then, passes, until_at, until, to_end_at, to_end}

-- what was read before, in front
abbrev pub with_front : {X : Type 0} → List X → Outcome (List X) → Outcome (List X)
with_front front o = and_then o (λ xs rest. got (front ++ xs) rest)

pub no_front : {X : Type 0} (o : Outcome (List X)) → with_front [] o ≡ o
no_front (got xs rest) = refl
no_front (fault rest) = refl

-- a piece, and then what another reading gives
abbrev pub piece_and : {X : Type 0} → Outcome X → (List Symbol → Outcome (List X)) → Outcome (List X)
piece_and piece read = and_then piece (λ x behind. and_then (read behind) (λ xs end. got (x ∷ xs) end))

-- each piece takes a symbol
abbrev pub Shrinks : {X : Type 0} → (List Symbol → Outcome X) → Type 0
Shrinks {X} piece = (symbols rest : List Symbol) (x : X) → piece symbols ≡ got x rest → length rest < length symbols

pub shrinks : {X : Type 0} {Spells : List Symbol → X → Type 0} {piece : List Symbol → Outcome X} → ((s : List Symbol) (x : X) → Spells s x → (first : Symbol) × ((rest : List Symbol) × (s ≡ first ∷ rest)))
    → IsReader Spells Anything piece → Shrinks piece
shrinks some is symbols rest x e =
    let t = is.sound symbols rest x e in
    let b = some t.front x t.spelled in
    let whole : length symbols ≡ length t.front + length rest = ap length t.joined ∙ length-append t.front rest in
    let front : length t.front ≡ suc (length b.1.0) = ap length b.1.1 in
    omega (arith, whole, front)

same_behind : {X : Type 0} (o : Outcome X) (f g : List Symbol → Outcome (List X)) → ((x : X) (rest : List Symbol) → o ≡ got x rest → f rest ≡ g rest) → piece_and o f ≡ piece_and o g
same_behind {X = X} (got x rest) f g h = ap (λ (o : Outcome (List X)). and_then o (λ xs end. got (x ∷ xs) end)) (h x rest refl)
same_behind (fault rest) f g h = refl

front_of_piece : {X : Type 0} (front : List X) (x : X) (o : Outcome (List X)) → with_front front (and_then o (λ xs end. got (x ∷ xs) end)) ≡ with_front (front ++ x ∷ []) o
front_of_piece {X = X} front x (got xs rest) = ap (λ (ys : List X). got ys rest) (sym (append_assoc front (x ∷ []) xs))
front_of_piece front x (fault rest) = refl

-- ---- up to a closing symbol

module _ {X : Type 0} (closes : Symbol → Bool) (piece : List Symbol → Outcome X) (shrinking : Shrinks piece) (empty : piece [] ≡ fault []) where
  enough : (n m : ℕ) (symbols : List Symbol) → length symbols < n → length symbols < m → until_at n closes piece symbols ≡ until_at m closes piece symbols
  enough zero m symbols p q = absurd (omega arith)
  enough (suc n) zero symbols p q = absurd (omega arith)
  enough (suc n) (suc m) [] p q = refl
  enough (suc n) (suc m) (s ∷ symbols) p q =
      ap (cond (closes s) (got [] symbols))
      (same_behind (piece (s ∷ symbols)) (until_at n closes piece) (until_at m closes piece) (λ x rest e.
      let less = shrinking (s ∷ symbols) rest x e in enough n m rest (omega (arith, less)) (omega (arith, less))))

  pub until_more : (symbols : List Symbol) → passes closes (next symbols) ≡ false → until closes piece symbols ≡ piece_and (piece symbols) (until closes piece)
  unfolding until
  until_more [] h = rw empty refl
  until_more (s ∷ symbols) h =
      let size : length (s ∷ symbols) + 1 ≡ suc (suc (length symbols)) = omega arith in
      ap (λ n. until_at n closes piece (s ∷ symbols)) size
      ∙ rw h (same_behind (piece (s ∷ symbols)) (until_at (suc (length symbols)) closes piece) (λ rest. until_at (length rest + 1) closes piece rest) (λ x rest e.
      let less = shrinking (s ∷ symbols) rest x e in enough (suc (length symbols)) (length rest + 1) rest (omega (arith, less)) (omega arith)))

  pub until_closed : (s : Symbol) (rest : List Symbol) → closes s ≡ true → until closes piece (s ∷ rest) ≡ got [] rest
  unfolding until
  until_closed s rest h =
      let size : length (s ∷ rest) + 1 ≡ suc (suc (length rest)) = omega arith in
      ap (λ n. until_at n closes piece (s ∷ rest)) size ∙ rw h refl

  pub goes_on : (front : List X) (symbols rest : List Symbol) (x : X) (total : Outcome (List X)) → passes closes (next symbols) ≡ false → piece symbols ≡ got x rest
      → with_front front (until closes piece symbols) ≡ total → with_front (front ++ x ∷ []) (until closes piece rest) ≡ total
  goes_on front symbols rest x total h e so =
      sym (front_of_piece front x (until closes piece rest))
      ∙ ap (λ (o : Outcome (List X)). with_front front o) (sym (until_more symbols h ∙ ap (λ (o : Outcome X). piece_and o (until closes piece)) e)) ∙ so

  pub stops : (front : List X) (symbols rest : List Symbol) (total : Outcome (List X)) → passes closes (next symbols) ≡ false → piece symbols ≡ fault rest
      → with_front front (until closes piece symbols) ≡ total → total ≡ fault rest
  stops front symbols rest total h e so =
      sym so ∙ ap (λ (o : Outcome (List X)). with_front front o) (until_more symbols h ∙ ap (λ (o : Outcome X). piece_and o (until closes piece)) e)

  pub ends : (front : List X) (s : Symbol) (rest : List Symbol) (total : Outcome (List X)) → closes s ≡ true → with_front front (until closes piece (s ∷ rest)) ≡ total
      → total ≡ got front rest
  ends front s rest total h so =
      sym so ∙ ap (λ (o : Outcome (List X)). with_front front o) (until_closed s rest h) ∙ ap (λ (xs : List X). got xs rest) (append-nil front)

-- ---- up to the end

module _ {X : Type 0} (piece : List Symbol → Outcome X) (shrinking : Shrinks piece) where
  enough_to_end : (n m : ℕ) (symbols : List Symbol) → length symbols ≤ n → length symbols ≤ m → to_end_at n piece symbols ≡ to_end_at m piece symbols
  enough_to_end n m [] p q = refl
  enough_to_end zero m (s ∷ symbols) p q = absurd (omega arith)
  enough_to_end (suc n) zero (s ∷ symbols) p q = absurd (omega arith)
  enough_to_end (suc n) (suc m) (s ∷ symbols) p q =
      same_behind (piece (s ∷ symbols)) (to_end_at n piece) (to_end_at m piece) (λ x rest e.
      let less = shrinking (s ∷ symbols) rest x e in enough_to_end n m rest (omega (arith, less)) (omega (arith, less)))

  to_end_more : (s : Symbol) (symbols : List Symbol) → to_end piece (s ∷ symbols) ≡ piece_and (piece (s ∷ symbols)) (to_end piece)
  unfolding to_end
  to_end_more s symbols =
      same_behind (piece (s ∷ symbols)) (to_end_at (length symbols) piece) (λ rest. to_end_at (length rest) piece rest) (λ x rest e.
      let less = shrinking (s ∷ symbols) rest x e in enough_to_end (length symbols) (length rest) rest (omega (arith, less)) (omega arith))

  pub end_goes_on : (front : List X) (s : Symbol) (symbols rest : List Symbol) (x : X) (total : Outcome (List X)) → piece (s ∷ symbols) ≡ got x rest
      → with_front front (to_end piece (s ∷ symbols)) ≡ total → with_front (front ++ x ∷ []) (to_end piece rest) ≡ total
  end_goes_on front s symbols rest x total e so =
      sym (front_of_piece front x (to_end piece rest))
      ∙ ap (λ (o : Outcome (List X)). with_front front o) (sym (to_end_more s symbols ∙ ap (λ (o : Outcome X). piece_and o (to_end piece)) e)) ∙ so

  pub end_stops : (front : List X) (s : Symbol) (symbols rest : List Symbol) (total : Outcome (List X)) → piece (s ∷ symbols) ≡ fault rest
      → with_front front (to_end piece (s ∷ symbols)) ≡ total → total ≡ fault rest
  end_stops front s symbols rest total e so =
      sym so ∙ ap (λ (o : Outcome (List X)). with_front front o) (to_end_more s symbols ∙ ap (λ (o : Outcome X). piece_and o (to_end piece)) e)

  pub end_ends : (front : List X) (total : Outcome (List X)) → with_front front (to_end piece []) ≡ total → total ≡ got front []
  unfolding to_end
  end_ends front total so = sym so ∙ ap (λ (xs : List X). got xs []) (append-nil front)
