-- Readings of any number of pieces.
use Rattle.std.proofs.Common.{◌≡◌, ℕ, zero, suc, ◌+◌, ◌<◌, Bool, true, false, cond, List, [], ◌∷◌, ◌++◌, length, refl, sym, ap, subst, ◌∙◌, append_assoc, length-append, arith}
use Rattle.std.proofs.lemmas.List.{append-nil}
use Rattle.dj_lexer.specs.Symbols.{Symbol}
use Rattle.dj_tree.specs.Repeats as repeats
use Rattle.dj_tree.specs.Repeats.{Many}
use Rattle.dj_reader.specs.Reading.{Outcome, got, fault, next, IsTaken, Begins, CannotStand, IsFault, IsReader, Anything}
use Rattle.dj_reader.specs.Combining.{and_then, until_at, until, SpellsUntil, closed}
use Rattle.dj_reader.proofs.Laws.{got_value, got_rest, took, Missed, missed, at_first, behind, true_no_false}

-- each piece begins with a symbol, which doesn't close, and some symbol closes
pub record Pieces {X : Type 0} (closes : Symbol → Bool) (Spells : List Symbol → X → Type 0) : Type 0 where
  pub begins : (s : List Symbol) (x : X) → Spells s x → (first : Symbol) × ((rest : List Symbol) × (s ≡ first ∷ rest) × (closes first ≡ false))
  pub close : Symbol
  pub closing : closes close ≡ true

pub shorter : (front rest : List Symbol) (first : Symbol) (more : List Symbol) (count : ℕ) → front ≡ first ∷ more → length (front ++ rest) < suc count → length rest < count
shorter front rest first more count e low =
    let n : length (front ++ rest) ≡ length front + length rest = length-append front rest in
    let some : length front ≡ suc (length more) = ap length e in
    omega (arith, n, some, low)

behind_is_shorter : {X : Type 0} {Spells : List Symbol → X → Type 0} {closes : Symbol → Bool} → Pieces closes Spells → (symbols rest : List Symbol) (x : X) (count : ℕ)
    → IsTaken Spells Anything symbols rest x → length symbols < suc count → length rest < count
behind_is_shorter pieces symbols rest x count t low =
    let b = pieces.begins t.front x t.spelled in
    shorter t.front rest b.0 b.1.0 count b.1.1 (subst (λ l. length l < suc count) t.joined low)

module _ {X : Type 0} {Spells : List Symbol → X → Type 0} {closes : Symbol → Bool} {piece : List Symbol → Outcome X} (pieces : Pieces closes Spells)
    (is : IsReader Spells Anything piece) where
  -- ---- what is spelled is read

  whole : (count : ℕ) (front : List Symbol) (xs : List X) → Many Spells front xs → (close : Symbol) → closes close ≡ true → (rest : List Symbol)
      → length (front ++ close ∷ rest) < count → until_at count closes piece (front ++ close ∷ rest) ≡ got xs rest
  whole zero front xs p close h rest low = absurd (omega arith)
  whole (suc count) front xs repeats.none close h rest low = rw h refl
  whole (suc count) front xs (repeats.more {front = s} {rest = t} {x = x} {xs = ys} p ps) close h rest low =
      first_then (λ less. whole count t ys ps close h rest less) (pieces.begins s x p)
    where
      first_then : (length (t ++ close ∷ rest) < count → until_at count closes piece (t ++ close ∷ rest) ≡ got ys rest) → (first : Symbol) × ((more : List Symbol) × (s ≡ first ∷ more) × (closes first ≡ false)) → until_at (suc count) closes piece ((s ++ t) ++ close ∷ rest) ≡ got (x ∷ ys) rest
      first_then next_ones b =
          let joined : (s ++ t) ++ close ∷ rest ≡ s ++ (t ++ close ∷ rest) = append_assoc s t (close ∷ rest) in
          let begun : s ++ (t ++ close ∷ rest) ≡ b.0 ∷ (b.1.0 ++ (t ++ close ∷ rest)) = ap (λ l. l ++ (t ++ close ∷ rest)) b.1.1 in
          let read_piece : piece (b.0 ∷ (b.1.0 ++ (t ++ close ∷ rest))) ≡ got x (t ++ close ∷ rest) =
          ap piece (sym begun) ∙ is.complete s (t ++ close ∷ rest) x p tt in
          let less : length (t ++ close ∷ rest) < count =
          shorter s (t ++ close ∷ rest) b.0 b.1.0 count b.1.1 (subst (λ l. length l < suc count) joined low) in
          let again : until_at count closes piece (t ++ close ∷ rest) ≡ got ys rest = next_ones less in
          ap (until_at (suc count) closes piece) (joined ∙ begun) ∙ rw (b.1.2, read_piece, again) refl

  -- ---- what is read is spelled

  one_more : (symbols between rest : List Symbol) (x : X) (xs : List X) → IsTaken Spells Anything symbols between x → IsTaken (SpellsUntil closes Spells) Anything between rest xs
      → IsTaken (SpellsUntil closes Spells) Anything symbols rest (x ∷ xs)
  one_more symbols between rest x xs t u = joined_to t.front t.spelled t.joined u.front u.spelled u.joined
    where
      joined_to : (s : List Symbol) → Spells s x → symbols ≡ s ++ between → (l : List Symbol) → SpellsUntil closes Spells l xs → between ≡ l ++ rest
          → IsTaken (SpellsUntil closes Spells) Anything symbols rest (x ∷ xs)
      joined_to s p e l (closed {s = body} close many h) f =
          let P : List Symbol → Type 0 = λ k. SpellsUntil closes Spells k (x ∷ xs) in
          record {
            front = s ++ (body ++ close ∷ []);
            joined = e ∙ ap (λ k. s ++ k) f ∙ sym (append_assoc s (body ++ close ∷ []) rest);
            spelled = subst P (append_assoc s body (close ∷ [])) (closed close (repeats.more p many) h);
            follows = tt;
          }

  taken : (count : ℕ) (symbols rest : List Symbol) (xs : List X) → length symbols < count → until_at count closes piece symbols ≡ got xs rest
      → IsTaken (SpellsUntil closes Spells) Anything symbols rest xs
  taken zero symbols rest xs low e = absurd (omega arith)
  taken (suc count) [] rest xs low e = absurd cc
  taken (suc count) (s ∷ symbols) rest xs low e = by_test (taken count) (closes s) refl e
    where
      by_test : ((symbols rest : List Symbol) (xs : List X) → length symbols < count → until_at count closes piece symbols ≡ got xs rest → IsTaken (SpellsUntil closes Spells) Anything symbols rest xs) → (b : Bool) → closes s ≡ b
          → cond b (got [] symbols) (and_then (piece (s ∷ symbols)) (λ x behind. and_then (until_at count closes piece behind) (λ ys end. got (x ∷ ys) end))) ≡ got xs rest
          → IsTaken (SpellsUntil closes Spells) Anything (s ∷ symbols) rest xs
      by_test again true h e =
          let P : List X → Type 0 = λ ys. SpellsUntil closes Spells (s ∷ []) ys in
          record { front = s ∷ []; joined = ap (λ l. s ∷ l) (got_rest e); spelled = subst P (got_value e) (closed s repeats.none h); follows = tt }
      by_test again false h e =
          let a = took {Y = List X} (piece (s ∷ symbols)) (λ x behind. and_then (until_at count closes piece behind) (λ ys end. got (x ∷ ys) end)) xs rest e in
          let b = took {Y = List X} (until_at count closes piece a.between) (λ ys end. got (a.value ∷ ys) end) xs rest a.second in
          let t = is.sound (s ∷ symbols) a.between a.value a.first in
          let u = again a.between b.between b.value (behind_is_shorter pieces (s ∷ symbols) a.between a.value count t low) b.first in
          let P : List X → Type 0 = λ ys. IsTaken (SpellsUntil closes Spells) Anything (s ∷ symbols) b.between ys in
          let Q : List Symbol → Type 0 = λ l. IsTaken (SpellsUntil closes Spells) Anything (s ∷ symbols) l xs in
          subst Q (got_rest b.second) (subst P (got_value b.second) (one_more (s ∷ symbols) a.between b.between a.value b.value t u))

  -- ---- where something can't stand

  -- what begins with a symbol that doesn't close begins with a piece
  split_first : (symbols : List Symbol) (s : Symbol) (tail : List Symbol) → symbols ≡ s ∷ tail → closes s ≡ false → Begins (SpellsUntil closes Spells) Anything symbols
      → (x : X) × ((between : List Symbol) × IsTaken Spells Anything symbols between x × Begins (SpellsUntil closes Spells) Anything between)
  split_first symbols s tail e h b = of b.0 b.1.0 b.1.1.front b.1.1.spelled b.1.1.joined
    where
      of_many : (rest : List Symbol) (xs : List X) (body : List Symbol) (close : Symbol) → Many Spells body xs → closes close ≡ true → symbols ≡ (body ++ close ∷ []) ++ rest
          → (x : X) × ((between : List Symbol) × IsTaken Spells Anything symbols between x × Begins (SpellsUntil closes Spells) Anything between)
      of_many rest xs body close repeats.none k joined =
          let same : s ∷ tail ≡ close ∷ rest = sym e ∙ joined in
          let first : s ≡ close = cc in
          absurd (true_no_false k (ap closes (sym first) ∙ h))
      of_many rest xs body close (repeats.more {front = p_symbols} {rest = others} {x = x} {xs = ys} p ps) k joined = (
        x,
        (
          (others ++ close ∷ []) ++ rest,
          record {
            front = p_symbols;
            joined = joined ∙ ap (λ l. l ++ rest) (append_assoc p_symbols others (close ∷ [])) ∙ append_assoc p_symbols (others ++ close ∷ []) rest;
            spelled = p;
            follows = tt;
          },
          (rest, (ys, record { front = others ++ close ∷ []; joined = refl; spelled = closed close ps k; follows = tt })),
        ),
      )

      of : (rest : List Symbol) (xs : List X) (front : List Symbol) → SpellsUntil closes Spells front xs → symbols ≡ front ++ rest
          → (x : X) × ((between : List Symbol) × IsTaken Spells Anything symbols between x × Begins (SpellsUntil closes Spells) Anything between)
      of rest xs front (closed {s = body} close many k) joined = of_many rest xs body close many k joined

  no_piece : (symbols : List Symbol) (s : Symbol) (tail : List Symbol) → symbols ≡ s ∷ tail → closes s ≡ false → ¬ (Begins Spells Anything symbols)
      → ¬ (Begins (SpellsUntil closes Spells) Anything symbols)
  no_piece symbols s tail e h wrong b =
      let parts = split_first symbols s tail e h b in
      wrong (parts.1.0, (parts.0, parts.1.1))

  -- a fault in the first piece
  first_wrong : (front rest : List Symbol) (s : Symbol) (tail : List Symbol) → front ++ rest ≡ s ∷ tail → closes s ≡ false → CannotStand Spells Anything front rest
      → CannotStand (SpellsUntil closes Spells) Anything front rest
  first_wrong front [] s tail e h wrong = no_piece front s tail (sym (append-nil front) ∙ e) h wrong
  first_wrong [] (t ∷ rest) s tail e h wrong = λ more.
      let same : t ≡ s = cc in no_piece (t ∷ more) t more refl (ap closes same ∙ h) (wrong more)
  first_wrong (u ∷ front) (t ∷ rest) s tail e h wrong = λ more.
      let same : u ≡ s = cc in no_piece (u ∷ front ++ t ∷ more) u (front ++ t ∷ more) refl (ap closes same ∙ h) (wrong more)

  -- a fault behind the first piece
  no_later : (before rest : List Symbol) (x : X) → Spells before x → ¬ (Begins (SpellsUntil closes Spells) Anything rest) → ¬ (Begins (SpellsUntil closes Spells) Anything (before ++ rest))
  no_later before rest x p wrong b =
      let first = pieces.begins before x p in
      let joined : before ++ rest ≡ first.0 ∷ (first.1.0 ++ rest) = ap (λ l. l ++ rest) first.1.1 in
      let parts = split_first (before ++ rest) first.0 (first.1.0 ++ rest) joined first.1.2 b in
      let t = parts.1.1 in
      let read_so : piece (before ++ rest) ≡ got parts.0 parts.1.0 = ap piece t.joined ∙ is.complete t.front parts.1.0 parts.0 t.spelled tt in
      let same : rest ≡ parts.1.0 = got_rest (sym (is.complete before rest x p tt) ∙ read_so) in
      let P : List Symbol → Type 0 = λ l. Begins (SpellsUntil closes Spells) Anything l in
      wrong (subst P (sym same) parts.1.2)

  later_wrong : (before front rest : List Symbol) (x : X) → Spells before x → CannotStand (SpellsUntil closes Spells) Anything front rest
      → CannotStand (SpellsUntil closes Spells) Anything (before ++ front) rest
  later_wrong before front [] x p wrong = no_later before front x p wrong
  later_wrong before front (s ∷ rest) x p wrong = λ more.
      let Q : List Symbol → Type 0 = λ l. ¬ (Begins (SpellsUntil closes Spells) Anything l) in
      subst Q (sym (append_assoc before front (s ∷ more))) (no_later before (front ++ s ∷ more) x p (wrong more))

  first_fault : (symbols rest : List Symbol) (s : Symbol) (tail : List Symbol) → symbols ≡ s ∷ tail → closes s ≡ false → IsFault Spells Anything symbols rest
      → IsFault (SpellsUntil closes Spells) Anything symbols rest
  first_fault symbols rest s tail e h f =
      let P : List Symbol → Type 0 = λ l. SpellsUntil closes Spells l (f.beginning.value ∷ []) in
      let whole_piece : Many Spells ((f.front ++ f.beginning.more) ++ []) (f.beginning.value ∷ []) = repeats.more f.beginning.spelled repeats.none in
      let Q : List Symbol → Type 0 = λ l. Many Spells l (f.beginning.value ∷ []) in
      record {
        front = f.front;
        joined = f.joined;
        beginning = record {
          more = f.beginning.more ++ pieces.close ∷ [];
          value = f.beginning.value ∷ [];
          spelled = subst P (append_assoc f.front f.beginning.more (pieces.close ∷ [])) (closed pieces.close (subst Q (append-nil (f.front ++ f.beginning.more)) whole_piece) pieces.closing);
        };
        wrong = first_wrong f.front rest s tail (sym f.joined ∙ e) h f.wrong;
      }

  later_fault : (symbols between rest : List Symbol) (x : X) → IsTaken Spells Anything symbols between x → IsFault (SpellsUntil closes Spells) Anything between rest
      → IsFault (SpellsUntil closes Spells) Anything symbols rest
  later_fault symbols between rest x t f = begun_so f.beginning.value (f.front ++ f.beginning.more) f.beginning.spelled refl
    where
      begun_so : (xs : List X) (l : List Symbol) → SpellsUntil closes Spells l xs → f.front ++ f.beginning.more ≡ l → IsFault (SpellsUntil closes Spells) Anything symbols rest
      begun_so xs l (closed {s = body} close many h) same =
          let P : List Symbol → Type 0 = λ k. SpellsUntil closes Spells k (x ∷ xs) in
          record {
            front = t.front ++ f.front;
            joined = t.joined ∙ ap (λ k. t.front ++ k) f.joined ∙ sym (append_assoc t.front f.front rest);
            beginning = record {
              more = f.beginning.more;
              value = x ∷ xs;
              spelled =
                  subst P (append_assoc t.front body (close ∷ []) ∙ ap (λ k. t.front ++ k) (sym same) ∙ sym (append_assoc t.front f.front f.beginning.more))
                  (closed close (repeats.more t.spelled many) h);
            };
            wrong = later_wrong t.front f.front rest x t.spelled f.wrong;
          }

  nothing_there : (front rest : List Symbol) (xs : List X) → SpellsUntil closes Spells front xs → [] ≡ front ++ rest → ⊥
  nothing_there front rest xs (closed {s = []} close many h) e = cc
  nothing_there front rest xs (closed {s = t ∷ body} close many h) e = cc

  at_end : IsFault (SpellsUntil closes Spells) Anything [] []
  at_end =
      record {
        front = [];
        joined = refl;
        beginning = record { more = pieces.close ∷ []; value = []; spelled = closed pieces.close repeats.none pieces.closing };
        wrong = λ b. nothing_there b.1.1.front b.0 b.1.0 b.1.1.spelled b.1.1.joined;
      }

  found : (count : ℕ) (symbols rest : List Symbol) → length symbols < count → until_at count closes piece symbols ≡ fault rest
      → IsFault (SpellsUntil closes Spells) Anything symbols rest
  found zero symbols rest low e = absurd (omega arith)
  found (suc count) [] rest low e =
      let same : [] ≡ rest = cc in
      let P : List Symbol → Type 0 = λ l. IsFault (SpellsUntil closes Spells) Anything [] l in
      subst P same at_end
  found (suc count) (s ∷ symbols) rest low e = by_test (found count) (closes s) refl e
    where
      by_test : ((symbols rest : List Symbol) → length symbols < count → until_at count closes piece symbols ≡ fault rest → IsFault (SpellsUntil closes Spells) Anything symbols rest) → (b : Bool) → closes s ≡ b
          → cond b (got [] symbols) (and_then (piece (s ∷ symbols)) (λ x behind. and_then (until_at count closes piece behind) (λ ys end. got (x ∷ ys) end))) ≡ fault rest
          → IsFault (SpellsUntil closes Spells) Anything (s ∷ symbols) rest
      by_test again true h e = absurd cc
      by_test again false h e = of (missed {Y = List X} (piece (s ∷ symbols)) (λ x behind. and_then (until_at count closes piece behind) (λ ys end. got (x ∷ ys) end)) rest e)
        where
          of : Missed {Y = List X} (piece (s ∷ symbols)) (λ x behind. and_then (until_at count closes piece behind) (λ ys end. got (x ∷ ys) end)) rest
              → IsFault (SpellsUntil closes Spells) Anything (s ∷ symbols) rest
          of (at_first k) = first_fault (s ∷ symbols) rest s symbols refl h (is.faulty (s ∷ symbols) rest k)
          of (behind x between k m) = of_more (missed {Y = List X} (until_at count closes piece between) (λ ys end. got (x ∷ ys) end) rest m)
            where
              t : IsTaken Spells Anything (s ∷ symbols) between x
              t = is.sound (s ∷ symbols) between x k

              of_more : Missed {Y = List X} (until_at count closes piece between) (λ ys end. got (x ∷ ys) end) rest → IsFault (SpellsUntil closes Spells) Anything (s ∷ symbols) rest
              of_more (at_first j) =
                  later_fault (s ∷ symbols) between rest x t (again between rest (behind_is_shorter pieces (s ∷ symbols) between x count t low) j)
              of_more (behind ys l j n) = absurd cc

  enough : (symbols : List Symbol) → length symbols < length symbols + 1
  enough symbols = omega arith

  pub until_reads : IsReader (SpellsUntil closes Spells) Anything (until closes piece)
  unfolding until
  until_reads =
      record {
        complete = whole_of;
        sound = λ symbols rest xs e. taken (length symbols + 1) symbols rest xs (enough symbols) e;
        faulty = λ symbols rest e. found (length symbols + 1) symbols rest (enough symbols) e;
      }
    where
      whole_of : (front rest : List Symbol) (xs : List X) → SpellsUntil closes Spells front xs → Anything (next rest) → until_at (length (front ++ rest) + 1) closes piece (front ++ rest) ≡ got xs rest
      whole_of front rest xs (closed {s = body} close many h) follows =
          let joined : (body ++ close ∷ []) ++ rest ≡ body ++ close ∷ rest = append_assoc body (close ∷ []) rest in
          let P : List Symbol → Type 0 = λ l. until_at (length l + 1) closes piece l ≡ got xs rest in
          subst P (sym joined) (whole (length (body ++ close ∷ rest) + 1) body xs many close h rest (enough (body ++ close ∷ rest)))
