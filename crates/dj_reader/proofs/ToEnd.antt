-- Readings of pieces up to the end.
use Rattle.std.proofs.Common.{◌≡◌, ℕ, zero, suc, ◌≤◌, ◌<◌, List, [], ◌∷◌, ◌++◌, length, refl, sym, ap, subst, ◌∙◌, append_assoc, arith}
use Rattle.std.proofs.lemmas.List.{append-nil}
use Rattle.dj_lexer.specs.Symbols.{Symbol}
use Rattle.dj_tree.specs.Repeats as repeats
use Rattle.dj_tree.specs.Repeats.{Many}
use Rattle.dj_reader.specs.Reading.{Outcome, got, fault, next, IsTaken, Begins, CannotStand, IsFault, IsReader, Anything, End}
use Rattle.dj_reader.specs.Combining.{and_then, to_end_at, to_end}
use Rattle.dj_reader.proofs.Laws.{got_value, got_rest, took, Missed, missed, at_first, behind}
use Rattle.dj_reader.proofs.Repeating.{shorter}

-- no piece is empty
abbrev pub IsSome : {X : Type 0} → (List Symbol → X → Type 0) → Type 0
IsSome {X} Spells = (s : List Symbol) (x : X) → Spells s x → (first : Symbol) × ((rest : List Symbol) × (s ≡ first ∷ rest))

at_end : (rest : List Symbol) → End (next rest) → rest ≡ []
at_end [] e = refl
at_end (s ∷ rest) e = absurd e

module _ {X : Type 0} {Spells : List Symbol → X → Type 0} {piece : List Symbol → Outcome X} (some : IsSome Spells) (is : IsReader Spells Anything piece) where
  whole : (count : ℕ) (front : List Symbol) (xs : List X) → Many Spells front xs → length front ≤ count → to_end_at count piece front ≡ got xs []
  whole count front xs repeats.none low = refl
  whole zero front xs (repeats.more {front = s} {rest = t} {x = x} {xs = ys} p ps) low = empty_no (some s x p)
    where
      empty_no : (first : Symbol) × ((more : List Symbol) × (s ≡ first ∷ more)) → to_end_at zero piece (s ++ t) ≡ got (x ∷ ys) []
      empty_no b =
          let size : length (s ++ t) ≡ suc (length (b.1.0 ++ t)) = ap (λ l. length (l ++ t)) b.1.1 in
          absurd (omega (arith, size, low))
  whole (suc count) front xs (repeats.more {front = s} {rest = t} {x = x} {xs = ys} p ps) low = first_then (λ less. whole count t ys ps less) (some s x p)
    where
      first_then : (length t ≤ count → to_end_at count piece t ≡ got ys []) → (first : Symbol) × ((more : List Symbol) × (s ≡ first ∷ more))
          → to_end_at (suc count) piece (s ++ t) ≡ got (x ∷ ys) []
      first_then next_ones b =
          let begun : s ++ t ≡ b.0 ∷ (b.1.0 ++ t) = ap (λ l. l ++ t) b.1.1 in
          let read_piece : piece (b.0 ∷ (b.1.0 ++ t)) ≡ got x t = ap piece (sym begun) ∙ is.complete s t x p tt in
          let less : length t < suc count = shorter s t b.0 b.1.0 (suc count) b.1.1 (omega (arith, low)) in
          let again : to_end_at count piece t ≡ got ys [] = next_ones (omega (arith, less)) in
          ap (to_end_at (suc count) piece) begun ∙ rw (read_piece, again) refl

  one_more : (symbols between rest : List Symbol) (x : X) (xs : List X) → IsTaken Spells Anything symbols between x → IsTaken (Many Spells) End between rest xs
      → IsTaken (Many Spells) End symbols rest (x ∷ xs)
  one_more symbols between rest x xs t u =
      record {
        front = t.front ++ u.front;
        joined = t.joined ∙ ap (λ k. t.front ++ k) u.joined ∙ sym (append_assoc t.front u.front rest);
        spelled = repeats.more t.spelled u.spelled;
        follows = u.follows;
      }

  taken : (count : ℕ) (symbols rest : List Symbol) (xs : List X) → to_end_at count piece symbols ≡ got xs rest → IsTaken (Many Spells) End symbols rest xs
  taken count [] rest xs e =
      let P : List X → Type 0 = λ ys. Many Spells [] ys in
      let Q : List Symbol → Type 0 = λ l. End (next l) in
      record { front = []; joined = got_rest e; spelled = subst P (got_value e) repeats.none; follows = subst Q (got_rest e) tt }
  taken zero (s ∷ symbols) rest xs e = absurd cc
  taken (suc count) (s ∷ symbols) rest xs e =
      let a = took {Y = List X} (piece (s ∷ symbols)) (λ x behind. and_then (to_end_at count piece behind) (λ ys end. got (x ∷ ys) end)) xs rest e in
      let b = took {Y = List X} (to_end_at count piece a.between) (λ ys end. got (a.value ∷ ys) end) xs rest a.second in
      let t = is.sound (s ∷ symbols) a.between a.value a.first in
      let u = taken count a.between b.between b.value b.first in
      let P : List X → Type 0 = λ ys. IsTaken (Many Spells) End (s ∷ symbols) b.between ys in
      let Q : List Symbol → Type 0 = λ l. IsTaken (Many Spells) End (s ∷ symbols) l xs in
      subst Q (got_rest b.second) (subst P (got_value b.second) (one_more (s ∷ symbols) a.between b.between a.value b.value t u))

  -- what isn't empty begins with a piece
  split_first : (symbols : List Symbol) (s : Symbol) (tail : List Symbol) → symbols ≡ s ∷ tail → Begins (Many Spells) End symbols
      → (x : X) × ((between : List Symbol) × IsTaken Spells Anything symbols between x × Begins (Many Spells) End between)
  split_first symbols s tail e b = of b.0 b.1.0 b.1.1.front b.1.1.spelled b.1.1.joined b.1.1.follows
    where
      of : (rest : List Symbol) (xs : List X) (front : List Symbol) → Many Spells front xs → symbols ≡ front ++ rest → End (next rest)
          → (x : X) × ((between : List Symbol) × IsTaken Spells Anything symbols between x × Begins (Many Spells) End between)
      of rest xs front repeats.none joined ends = let clash : [] ≡ s ∷ tail = sym (at_end rest ends) ∙ sym joined ∙ e in absurd cc
      of rest xs front (repeats.more {front = p_symbols} {rest = others} {x = x} {xs = ys} p ps) joined ends = (
        x,
        (
          others ++ rest,
          record { front = p_symbols; joined = joined ∙ append_assoc p_symbols others rest; spelled = p; follows = tt },
          (rest, (ys, record { front = others; joined = refl; spelled = ps; follows = ends })),
        ),
      )

  no_piece : (symbols : List Symbol) (s : Symbol) (tail : List Symbol) → symbols ≡ s ∷ tail → ¬ (Begins Spells Anything symbols) → ¬ (Begins (Many Spells) End symbols)
  no_piece symbols s tail e wrong b =
      let parts = split_first symbols s tail e b in
      wrong (parts.1.0, (parts.0, parts.1.1))

  first_wrong : (front rest : List Symbol) (s : Symbol) (tail : List Symbol) → front ++ rest ≡ s ∷ tail → CannotStand Spells Anything front rest
      → CannotStand (Many Spells) End front rest
  first_wrong front [] s tail e wrong = no_piece front s tail (sym (append-nil front) ∙ e) wrong
  first_wrong [] (t ∷ rest) s tail e wrong = λ more. no_piece (t ∷ more) t more refl (wrong more)
  first_wrong (u ∷ front) (t ∷ rest) s tail e wrong = λ more. no_piece (u ∷ front ++ t ∷ more) u (front ++ t ∷ more) refl (wrong more)

  no_later : (before rest : List Symbol) (x : X) → Spells before x → ¬ (Begins (Many Spells) End rest) → ¬ (Begins (Many Spells) End (before ++ rest))
  no_later before rest x p wrong b =
      let first = some before x p in
      let joined : before ++ rest ≡ first.0 ∷ (first.1.0 ++ rest) = ap (λ l. l ++ rest) first.1.1 in
      let parts = split_first (before ++ rest) first.0 (first.1.0 ++ rest) joined b in
      let t = parts.1.1 in
      let read_so : piece (before ++ rest) ≡ got parts.0 parts.1.0 = ap piece t.joined ∙ is.complete t.front parts.1.0 parts.0 t.spelled tt in
      let same : rest ≡ parts.1.0 = got_rest (sym (is.complete before rest x p tt) ∙ read_so) in
      let P : List Symbol → Type 0 = λ l. Begins (Many Spells) End l in
      wrong (subst P (sym same) parts.1.2)

  later_wrong : (before front rest : List Symbol) (x : X) → Spells before x → CannotStand (Many Spells) End front rest → CannotStand (Many Spells) End (before ++ front) rest
  later_wrong before front [] x p wrong = no_later before front x p wrong
  later_wrong before front (s ∷ rest) x p wrong = λ more.
      let Q : List Symbol → Type 0 = λ l. ¬ (Begins (Many Spells) End l) in
      subst Q (sym (append_assoc before front (s ∷ more))) (no_later before (front ++ s ∷ more) x p (wrong more))

  first_fault : (symbols rest : List Symbol) (s : Symbol) (tail : List Symbol) → symbols ≡ s ∷ tail → IsFault Spells Anything symbols rest → IsFault (Many Spells) End symbols rest
  first_fault symbols rest s tail e f =
      let Q : List Symbol → Type 0 = λ l. Many Spells l (f.beginning.value ∷ []) in
      record {
        front = f.front;
        joined = f.joined;
        beginning = record {
          more = f.beginning.more;
          value = f.beginning.value ∷ [];
          spelled = subst Q (append-nil (f.front ++ f.beginning.more)) (repeats.more f.beginning.spelled repeats.none);
        };
        wrong = first_wrong f.front rest s tail (sym f.joined ∙ e) f.wrong;
      }

  later_fault : (symbols between rest : List Symbol) (x : X) → IsTaken Spells Anything symbols between x → IsFault (Many Spells) End between rest → IsFault (Many Spells) End symbols rest
  later_fault symbols between rest x t f =
      let P : List Symbol → Type 0 = λ l. Many Spells l (x ∷ f.beginning.value) in
      record {
        front = t.front ++ f.front;
        joined = t.joined ∙ ap (λ k. t.front ++ k) f.joined ∙ sym (append_assoc t.front f.front rest);
        beginning = record {
          more = f.beginning.more;
          value = x ∷ f.beginning.value;
          spelled = subst P (sym (append_assoc t.front f.front f.beginning.more)) (repeats.more t.spelled f.beginning.spelled);
        };
        wrong = later_wrong t.front f.front rest x t.spelled f.wrong;
      }

  found : (count : ℕ) (symbols rest : List Symbol) → length symbols ≤ count → to_end_at count piece symbols ≡ fault rest → IsFault (Many Spells) End symbols rest
  found count [] rest low e = absurd cc
  found zero (s ∷ symbols) rest low e = absurd (omega arith)
  found (suc count) (s ∷ symbols) rest low e =
      of (found count) (missed {Y = List X} (piece (s ∷ symbols)) (λ x behind. and_then (to_end_at count piece behind) (λ ys end. got (x ∷ ys) end)) rest e)
    where
      of : ((symbols rest : List Symbol) → length symbols ≤ count → to_end_at count piece symbols ≡ fault rest → IsFault (Many Spells) End symbols rest)
          → Missed {Y = List X} (piece (s ∷ symbols)) (λ x behind. and_then (to_end_at count piece behind) (λ ys end. got (x ∷ ys) end)) rest
          → IsFault (Many Spells) End (s ∷ symbols) rest
      of again (at_first k) = first_fault (s ∷ symbols) rest s symbols refl (is.faulty (s ∷ symbols) rest k)
      of again (behind x between k m) = of_more (missed {Y = List X} (to_end_at count piece between) (λ ys end. got (x ∷ ys) end) rest m)
        where
          t : IsTaken Spells Anything (s ∷ symbols) between x
          t = is.sound (s ∷ symbols) between x k

          low_between : length between ≤ count
          low_between =
              let b = some t.front x t.spelled in
              let less : length between < suc count = shorter t.front between b.0 b.1.0 (suc count) b.1.1 (subst (λ l. length l < suc (suc count)) t.joined (omega (arith, low))) in
              omega (arith, less)

          of_more : Missed {Y = List X} (to_end_at count piece between) (λ ys end. got (x ∷ ys) end) rest → IsFault (Many Spells) End (s ∷ symbols) rest
          of_more (at_first j) = later_fault (s ∷ symbols) between rest x t (again between rest low_between j)
          of_more (behind ys l j n) = absurd cc

  pub to_end_reads : IsReader (Many Spells) End (to_end piece)
  unfolding to_end
  to_end_reads =
      record {
        complete = whole_of;
        sound = λ symbols rest xs e. taken (length symbols) symbols rest xs e;
        faulty = λ symbols rest e. found (length symbols) symbols rest (omega arith) e;
      }
    where
      whole_of : (front rest : List Symbol) (xs : List X) → Many Spells front xs → End (next rest) → to_end_at (length (front ++ rest)) piece (front ++ rest) ≡ got xs rest
      whole_of front rest xs p ends =
          let none_left : rest ≡ [] = at_end rest ends in
          let P : List Symbol → Type 0 = λ r. to_end_at (length (front ++ r)) piece (front ++ r) ≡ got xs r in
          let Q : List Symbol → Type 0 = λ l. to_end_at (length l) piece l ≡ got xs [] in
          subst P (sym none_left) (subst Q (sym (append-nil front)) (whole (length front) front xs p (omega arith)))
