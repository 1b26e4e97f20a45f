-- Readings made of readers are readers.
use Rattle.std.proofs.Common.{◌≡◌, Bool, true, false, cond, List, [], ◌∷◌, ◌++◌, Option, refl, sym, ap, subst, ◌∙◌, append_assoc}
use Rattle.std.proofs.lemmas.List.{append-nil}
use Rattle.dj_lexer.specs.Symbols.{Symbol}
use Rattle.dj_reader.specs.Reading.{Outcome, got, fault, next, IsTaken, Begins, IsBeginning, CannotStand, IsFault, IsReader, Anything}
use Rattle.dj_reader.specs.Combining.{and_then, one, SpellsOne, one_symbol, both, SpellsBoth, one_and_other, mapped, SpellsMapped, changed, passes, either, SpellsEither, this_way, other_way}

-- ---- outcomes

pub got_value : {X : Type 0} {x y : X} {s t : List Symbol} → got x s ≡ got y t → x ≡ y
got_value e = cc

pub got_rest : {X : Type 0} {x y : X} {s t : List Symbol} → got x s ≡ got y t → s ≡ t
got_rest e = cc

-- a reading that takes has taken a value first
pub record Took {X Y : Type 0} (o : Outcome X) (read : X → List Symbol → Outcome Y) (y : Y) (rest : List Symbol) : Type 0 where
  pub value : X
  pub between : List Symbol
  pub first : o ≡ got value between
  pub second : read value between ≡ got y rest

pub took : {X Y : Type 0} (o : Outcome X) (read : X → List Symbol → Outcome Y) (y : Y) (rest : List Symbol) → and_then o read ≡ got y rest → Took o read y rest
took (got x s) read y rest e = record { value = x; between = s; first = refl; second = e }
took (fault s) read y rest e = absurd cc

-- one that finds a fault found it at first, or behind a value
pub data Missed {X Y : Type 0} (o : Outcome X) (read : X → List Symbol → Outcome Y) (rest : List Symbol) : Type 0 where
  at_first : o ≡ fault rest → Missed o read rest
  behind : (x : X) (between : List Symbol) → o ≡ got x between → read x between ≡ fault rest → Missed o read rest

pub missed : {X Y : Type 0} (o : Outcome X) (read : X → List Symbol → Outcome Y) (rest : List Symbol) → and_then o read ≡ fault rest → Missed o read rest
missed (got x s) read rest e = behind x s refl e
missed (fault s) read rest e = at_first cc

-- ---- single symbols

pub true_no_false : {b : Bool} → b ≡ true → b ≡ false → ⊥
true_no_false yes_is no_is = let clash : true ≡ false = sym yes_is ∙ no_is in cc

pub one_reads : {X : Type 0} (test : Symbol → Bool) (value : Symbol → X) → (s : Symbol) → test s ≡ true → IsReader (SpellsOne test value) Anything (one test value)
one_reads {X = X} test value some passing =
    record {
      complete = λ front rest x spelled follows. whole front rest x spelled;
      sound = taken;
      faulty = found;
    }
  where
    whole : (front rest : List Symbol) (x : X) → SpellsOne test value front x → one test value (front ++ rest) ≡ got x rest
    whole front rest x (one_symbol s h) = rw h refl

    taken_if : (b : Bool) (s : Symbol) (symbols rest : List Symbol) (x : X) → test s ≡ b → cond b (got (value s) symbols) (fault (s ∷ symbols)) ≡ got x rest
        → IsTaken (SpellsOne test value) Anything (s ∷ symbols) rest x
    taken_if true s symbols rest x h e =
        let same : symbols ≡ rest = got_rest e in
        let P : X → Type 0 = λ y. SpellsOne test value (s ∷ []) y in
        record { front = s ∷ []; joined = ap (λ l. s ∷ l) same; spelled = subst P (got_value e) (one_symbol s h); follows = tt }
    taken_if false s symbols rest x h e = absurd cc

    taken : (symbols rest : List Symbol) (x : X) → one test value symbols ≡ got x rest → IsTaken (SpellsOne test value) Anything symbols rest x
    taken [] rest x e = absurd cc
    taken (s ∷ symbols) rest x e = taken_if (test s) s symbols rest x refl e

    begun : IsBeginning (SpellsOne test value) []
    begun = record { more = some ∷ []; value = value some; spelled = one_symbol some passing }

    none_there : (front rest : List Symbol) (x : X) → SpellsOne test value front x → [] ≡ front ++ rest → ⊥
    none_there front rest x (one_symbol s h) e = cc

    other_there : (front rest : List Symbol) (x : X) → SpellsOne test value front x → (s : Symbol) (more : List Symbol) → s ∷ more ≡ front ++ rest → test s ≡ false → ⊥
    other_there front rest x (one_symbol t h) s more e wrong = let same : s ≡ t = cc in true_no_false h (ap test (sym same) ∙ wrong)

    found_if : (b : Bool) (s : Symbol) (symbols rest : List Symbol) → test s ≡ b → cond b (got (value s) symbols) (fault (s ∷ symbols)) ≡ fault rest
        → IsFault (SpellsOne test value) Anything (s ∷ symbols) rest
    found_if true s symbols rest h e = absurd cc
    found_if false s symbols rest h e =
        let same : s ∷ symbols ≡ rest = cc in
        let P : List Symbol → Type 0 = λ l. IsFault (SpellsOne test value) Anything (s ∷ symbols) l in
        subst P same (record { front = []; joined = refl; beginning = begun; wrong = λ more b. other_there b.1.1.front b.0 b.1.0 b.1.1.spelled s more b.1.1.joined h })

    found : (symbols rest : List Symbol) → one test value symbols ≡ fault rest → IsFault (SpellsOne test value) Anything symbols rest
    found [] rest e =
        let same : [] ≡ rest = cc in
        let P : List Symbol → Type 0 = λ l. IsFault (SpellsOne test value) Anything [] l in
        subst P same (record { front = []; joined = refl; beginning = begun; wrong = λ b. none_there b.1.1.front b.0 b.1.0 b.1.1.spelled b.1.1.joined })
    found (s ∷ symbols) rest e = found_if (test s) s symbols rest refl e

-- ---- one after the other

-- Whatever the second grammar spells, with what may follow it, may follow what the first one spells; and it spells something.
pub record Joins {X Y : Type 0} (First : List Symbol → X → Type 0) (After : Option Symbol → Type 0) (Second : List Symbol → Y → Type 0) (Behind : Option Symbol → Type 0) : Type 0 where
  pub leads : (t rest : List Symbol) (y : Y) → Second t y → Behind (next rest) → After (next (t ++ rest))
  pub symbols : List Symbol
  pub value : Y
  pub spelled : Second symbols value

pub both_reads : {X Y : Type 0} {First : List Symbol → X → Type 0} {After : Option Symbol → Type 0} {Second : List Symbol → Y → Type 0} {Behind : Option Symbol → Type 0}
    {first : List Symbol → Outcome X} {second : List Symbol → Outcome Y} → Joins First After Second Behind → IsReader First After first → IsReader Second Behind second
    → IsReader (SpellsBoth First Second) Behind (both first second)
both_reads {X = X} {Y = Y} {First = First} {After = After} {Second = Second} {Behind = Behind} {first = first} {second = second} joins one_is other_is =
    record {
      complete = whole;
      sound = taken;
      faulty = found;
    }
  where
    behind_first : X → List Symbol → Outcome (X × Y)
    behind_first x rest = and_then (second rest) (λ y behind. got (x, y) behind)

    whole : (front rest : List Symbol) (v : X × Y) → SpellsBoth First Second front v → Behind (next rest) → both first second (front ++ rest) ≡ got v rest
    whole front rest v (one_and_other {s = s} {t = t} {x = x} {y = y} p q) follows =
        let split : first ((s ++ t) ++ rest) ≡ got x (t ++ rest) = ap first (append_assoc s t rest) ∙ one_is.complete s (t ++ rest) x p (joins.leads t rest y q follows) in
        rw (split, other_is.complete t rest y q follows) refl

    taken : (symbols rest : List Symbol) (v : X × Y) → both first second symbols ≡ got v rest → IsTaken (SpellsBoth First Second) Behind symbols rest v
    taken symbols rest v e =
        let a = took (first symbols) behind_first v rest e in
        let b = took (second a.between) (λ y behind. got (a.value, y) behind) v rest a.second in
        let p = one_is.sound symbols a.between a.value a.first in
        let q = other_is.sound a.between b.between b.value b.first in
        let same : b.between ≡ rest = got_rest b.second in
        let P : X × Y → Type 0 = λ w. SpellsBoth First Second (p.front ++ q.front) w in
        record {
          front = p.front ++ q.front;
          joined = p.joined ∙ ap (λ l. p.front ++ l) (q.joined ∙ ap (λ l. q.front ++ l) same) ∙ sym (append_assoc p.front q.front rest);
          spelled = subst P (got_value b.second) (one_and_other p.spelled q.spelled);
          follows = let Q : List Symbol → Type 0 = λ l. Behind (next l) in subst Q same q.follows;
        }

    -- where both begin, the first one does, and then the second one
    split_both : (symbols rest : List Symbol) (v : X × Y) (front : List Symbol) → SpellsBoth First Second front v → Behind (next rest) → symbols ≡ front ++ rest
        → (x : X) × ((between : List Symbol) × IsTaken First After symbols between x × Begins Second Behind between)
    split_both symbols rest v front (one_and_other {s = s} {t = t} {x = x} {y = y} p q) follows joined = (
      x,
      (
        t ++ rest,
        record { front = s; joined = joined ∙ append_assoc s t rest; spelled = p; follows = joins.leads t rest y q follows },
        (rest, (y, record { front = t; joined = refl; spelled = q; follows = follows })),
      ),
    )

    no_first : (symbols : List Symbol) → ¬ (Begins First After symbols) → ¬ (Begins (SpellsBoth First Second) Behind symbols)
    no_first symbols none b =
        let parts = split_both symbols b.0 b.1.0 b.1.1.front b.1.1.spelled b.1.1.follows b.1.1.joined in
        none (parts.1.0, (parts.0, parts.1.1))

    no_second : (front rest : List Symbol) (x : X) → First front x → After (next rest) → ¬ (Begins Second Behind rest) → ¬ (Begins (SpellsBoth First Second) Behind (front ++ rest))
    no_second front rest x p follows none b =
        let parts = split_both (front ++ rest) b.0 b.1.0 b.1.1.front b.1.1.spelled b.1.1.follows b.1.1.joined in
        let t = parts.1.1 in
        let read_so : first (front ++ rest) ≡ got parts.0 parts.1.0 =
        ap first t.joined ∙ one_is.complete t.front parts.1.0 parts.0 t.spelled t.follows in
        let same : rest ≡ parts.1.0 = got_rest (sym (one_is.complete front rest x p follows) ∙ read_so) in
        let P : List Symbol → Type 0 = λ l. Begins Second Behind l in
        none (subst P (sym same) parts.1.2)

    cannot_first : (front rest : List Symbol) → CannotStand First After front rest → CannotStand (SpellsBoth First Second) Behind front rest
    cannot_first front [] wrong = no_first front wrong
    cannot_first front (s ∷ rest) wrong = λ more. no_first (front ++ s ∷ more) (wrong more)

    cannot_second : (before front rest : List Symbol) (x : X) → First before x → After (next (front ++ rest)) → CannotStand Second Behind front rest
        → CannotStand (SpellsBoth First Second) Behind (before ++ front) rest
    cannot_second before front [] x p follows wrong =
        let Q : List Symbol → Type 0 = λ l. After (next l) in
        no_second before front x p (subst Q (append-nil front) follows) wrong
    cannot_second before front (s ∷ rest) x p follows wrong = λ more.
        let Q : List Symbol → Type 0 = λ l. ¬ (Begins (SpellsBoth First Second) Behind l) in
        subst Q (sym (append_assoc before front (s ∷ more))) (no_second before (front ++ s ∷ more) x p (same_next front s rest more follows) (wrong more))
      where
        same_next : (front : List Symbol) (s : Symbol) (rest more : List Symbol) → After (next (front ++ s ∷ rest)) → After (next (front ++ s ∷ more))
        same_next [] s rest more f = f
        same_next (t ∷ front) s rest more f = f

    found : (symbols rest : List Symbol) → both first second symbols ≡ fault rest → IsFault (SpellsBoth First Second) Behind symbols rest
    found symbols rest e = found_of symbols rest (missed (first symbols) behind_first rest e)
      where
        first_fault : (symbols rest : List Symbol) → IsFault First After symbols rest → IsFault (SpellsBoth First Second) Behind symbols rest
        first_fault symbols rest f =
            let P : List Symbol → Type 0 = λ l. SpellsBoth First Second l (f.beginning.value, joins.value) in
            record {
              front = f.front;
              joined = f.joined;
              beginning = record {
                more = f.beginning.more ++ joins.symbols;
                value = (f.beginning.value, joins.value);
                spelled = subst P (append_assoc f.front f.beginning.more joins.symbols) (one_and_other f.beginning.spelled joins.spelled);
              };
              wrong = cannot_first f.front rest f.wrong;
            }

        second_fault : (symbols between rest : List Symbol) (x : X) → IsTaken First After symbols between x → IsFault Second Behind between rest → IsFault (SpellsBoth First Second) Behind symbols rest
        second_fault symbols between rest x t f =
            let P : List Symbol → Type 0 = λ l. SpellsBoth First Second l (x, f.beginning.value) in
            let Q : List Symbol → Type 0 = λ l. After (next l) in
            record {
              front = t.front ++ f.front;
              joined = t.joined ∙ ap (λ l. t.front ++ l) f.joined ∙ sym (append_assoc t.front f.front rest);
              beginning = record {
                more = f.beginning.more;
                value = (x, f.beginning.value);
                spelled = subst P (sym (append_assoc t.front f.front f.beginning.more)) (one_and_other t.spelled f.beginning.spelled);
              };
              wrong = cannot_second t.front f.front rest x t.spelled (subst Q f.joined t.follows) f.wrong;
            }

        found_of : (symbols rest : List Symbol) → Missed (first symbols) behind_first rest → IsFault (SpellsBoth First Second) Behind symbols rest
        found_of symbols rest (at_first h) = first_fault symbols rest (one_is.faulty symbols rest h)
        found_of symbols rest (behind x between h k) = second_of (missed (second between) (λ y l. got (x, y) l) rest k)
          where
            second_of : Missed {Y = X × Y} (second between) (λ y l. got (x, y) l) rest → IsFault (SpellsBoth First Second) Behind symbols rest
            second_of (at_first j) = second_fault symbols between rest x (one_is.sound symbols between x h) (other_is.faulty between rest j)
            second_of (behind y l j k) = absurd cc

-- ---- with another value

pub mapped_reads : {X Y : Type 0} {Spells : List Symbol → X → Type 0} {Follows : Option Symbol → Type 0} {read : List Symbol → Outcome X} (change : X → Y)
    → IsReader Spells Follows read → IsReader (SpellsMapped change Spells) Follows (mapped change read)
mapped_reads {X = X} {Y = Y} {Spells = Spells} {Follows = Follows} {read = read} change is =
    record { complete = whole; sound = taken; faulty = found }
  where
    turn : X → List Symbol → Outcome Y
    turn x rest = got (change x) rest

    whole : (front rest : List Symbol) (y : Y) → SpellsMapped change Spells front y → Follows (next rest) → mapped change read (front ++ rest) ≡ got y rest
    whole front rest y (changed {x = x} p) follows = rw (is.complete front rest x p follows) refl

    taken : (symbols rest : List Symbol) (y : Y) → mapped change read symbols ≡ got y rest → IsTaken (SpellsMapped change Spells) Follows symbols rest y
    taken symbols rest y e =
        let a = took {Y = Y} (read symbols) turn y rest e in
        let t = is.sound symbols a.between a.value a.first in
        let same : a.between ≡ rest = got_rest a.second in
        let P : Y → Type 0 = λ z. SpellsMapped change Spells t.front z in
        let Q : List Symbol → Type 0 = λ l. Follows (next l) in
        record {
          front = t.front;
          joined = t.joined ∙ ap (λ l. t.front ++ l) same;
          spelled = subst P (got_value a.second) (changed t.spelled);
          follows = subst Q same t.follows;
        }

    begun : (symbols : List Symbol) → Begins (SpellsMapped change Spells) Follows symbols → Begins Spells Follows symbols
    begun symbols b = begun_of b.0 b.1.0 b.1.1.front b.1.1.spelled b.1.1.joined b.1.1.follows
      where
        begun_of : (rest : List Symbol) (y : Y) (front : List Symbol) → SpellsMapped change Spells front y → symbols ≡ front ++ rest → Follows (next rest) → Begins Spells Follows symbols
        begun_of rest y front (changed {x = x} p) joined follows = (rest, (x, record { front = front; joined = joined; spelled = p; follows = follows }))

    cannot : (front rest : List Symbol) → CannotStand Spells Follows front rest → CannotStand (SpellsMapped change Spells) Follows front rest
    cannot front [] wrong = λ b. wrong (begun front b)
    cannot front (s ∷ rest) wrong = λ more b. wrong more (begun (front ++ s ∷ more) b)

    mapped_fault : (symbols rest : List Symbol) → IsFault Spells Follows symbols rest → IsFault (SpellsMapped change Spells) Follows symbols rest
    mapped_fault symbols rest f =
        record {
          front = f.front;
          joined = f.joined;
          beginning = record { more = f.beginning.more; value = change f.beginning.value; spelled = changed f.beginning.spelled };
          wrong = cannot f.front rest f.wrong;
        }

    found : (symbols rest : List Symbol) → mapped change read symbols ≡ fault rest → IsFault (SpellsMapped change Spells) Follows symbols rest
    found symbols rest e = found_of (missed {Y = Y} (read symbols) turn rest e)
      where
        found_of : Missed {Y = Y} (read symbols) turn rest → IsFault (SpellsMapped change Spells) Follows symbols rest
        found_of (at_first h) = mapped_fault symbols rest (is.faulty symbols rest h)
        found_of (behind x between h k) = absurd cc

-- ---- of an equal grammar

pub record SameGrammar {X : Type 0} (One Other : List Symbol → X → Type 0) : Type 0 where
  pub to : (s : List Symbol) (x : X) → One s x → Other s x
  pub from : (s : List Symbol) (x : X) → Other s x → One s x

pub same_reads : {X : Type 0} {One Other : List Symbol → X → Type 0} {Follows : Option Symbol → Type 0} {read : List Symbol → Outcome X} → SameGrammar One Other
    → IsReader One Follows read → IsReader Other Follows read
same_reads {X = X} {One = One} {Other = Other} {Follows = Follows} {read = read} same is =
    record {
      complete = λ front rest x p follows. is.complete front rest x (same.from front x p) follows;
      sound = λ symbols rest x e.
          let t = is.sound symbols rest x e in record { front = t.front; joined = t.joined; spelled = same.to t.front x t.spelled; follows = t.follows };
      faulty = λ symbols rest e.
          let f = is.faulty symbols rest e in
          record {
            front = f.front;
            joined = f.joined;
            beginning = record { more = f.beginning.more; value = f.beginning.value; spelled = same.to (f.front ++ f.beginning.more) f.beginning.value f.beginning.spelled };
            wrong = cannot f.front rest f.wrong;
          };
    }
  where
    begun : (symbols : List Symbol) → Begins Other Follows symbols → Begins One Follows symbols
    begun symbols b = (b.0, (b.1.0, record { front = b.1.1.front; joined = b.1.1.joined; spelled = same.from b.1.1.front b.1.0 b.1.1.spelled; follows = b.1.1.follows }))

    cannot : (front rest : List Symbol) → CannotStand One Follows front rest → CannotStand Other Follows front rest
    cannot front [] wrong = λ b. wrong (begun front b)
    cannot front (s ∷ rest) wrong = λ more b. wrong more (begun (front ++ s ∷ more) b)

-- ---- chosen by the next symbol

-- what one grammar spells begins with a symbol that passes the test, and what the other spells with one that doesn't
pub record Chosen {X : Type 0} (test : Symbol → Bool) (One Other : List Symbol → X → Type 0) (Follows : Option Symbol → Type 0) : Type 0 where
  pub of_one : (s rest : List Symbol) (x : X) → One s x → passes test (next (s ++ rest)) ≡ true
  pub of_other : (s rest : List Symbol) (x : X) → Other s x → Follows (next rest) → passes test (next (s ++ rest)) ≡ false

pub next_kept : (front : List Symbol) (s : Symbol) (rest more : List Symbol) → next (front ++ s ∷ more) ≡ next (front ++ s ∷ rest)
next_kept [] s rest more = refl
next_kept (t ∷ front) s rest more = refl

pub either_reads : {X : Type 0} {One Other : List Symbol → X → Type 0} {Follows : Option Symbol → Type 0} {test : Symbol → Bool} {one_read other_read : List Symbol → Outcome X}
    → Chosen test One Other Follows → IsReader One Follows one_read → IsReader Other Follows other_read → IsReader (SpellsEither One Other) Follows (either test one_read other_read)
either_reads {X = X} {One = One} {Other = Other} {Follows = Follows} {test = test} {one_read = one_read} {other_read = other_read} chosen one_is other_is =
    record {
      complete = whole;
      sound = λ symbols rest x e. taken (passes test (next symbols)) symbols rest x refl e;
      faulty = λ symbols rest e. found (passes test (next symbols)) symbols rest refl e;
    }
  where
    whole : (front rest : List Symbol) (x : X) → SpellsEither One Other front x → Follows (next rest) → either test one_read other_read (front ++ rest) ≡ got x rest
    whole front rest x (this_way p) follows = rw (chosen.of_one front rest x p, one_is.complete front rest x p follows) refl
    whole front rest x (other_way p) follows = rw (chosen.of_other front rest x p follows, other_is.complete front rest x p follows) refl

    taken : (b : Bool) (symbols rest : List Symbol) (x : X) → passes test (next symbols) ≡ b → cond b (one_read symbols) (other_read symbols) ≡ got x rest
        → IsTaken (SpellsEither One Other) Follows symbols rest x
    taken true symbols rest x h e =
        let t = one_is.sound symbols rest x e in record { front = t.front; joined = t.joined; spelled = this_way t.spelled; follows = t.follows }
    taken false symbols rest x h e =
        let t = other_is.sound symbols rest x e in record { front = t.front; joined = t.joined; spelled = other_way t.spelled; follows = t.follows }

    begun_one : (symbols : List Symbol) → passes test (next symbols) ≡ true → Begins (SpellsEither One Other) Follows symbols → Begins One Follows symbols
    begun_one symbols h b = of b.0 b.1.0 b.1.1.front b.1.1.spelled b.1.1.joined b.1.1.follows
      where
        of : (rest : List Symbol) (x : X) (front : List Symbol) → SpellsEither One Other front x → symbols ≡ front ++ rest → Follows (next rest) → Begins One Follows symbols
        of rest x front (this_way p) joined follows = (rest, (x, record { front = front; joined = joined; spelled = p; follows = follows }))
        of rest x front (other_way p) joined follows = absurd (true_no_false h (ap (λ l. passes test (next l)) joined ∙ chosen.of_other front rest x p follows))

    begun_other : (symbols : List Symbol) → passes test (next symbols) ≡ false → Begins (SpellsEither One Other) Follows symbols → Begins Other Follows symbols
    begun_other symbols h b = of b.0 b.1.0 b.1.1.front b.1.1.spelled b.1.1.joined b.1.1.follows
      where
        of : (rest : List Symbol) (x : X) (front : List Symbol) → SpellsEither One Other front x → symbols ≡ front ++ rest → Follows (next rest) → Begins Other Follows symbols
        of rest x front (other_way p) joined follows = (rest, (x, record { front = front; joined = joined; spelled = p; follows = follows }))
        of rest x front (this_way p) joined follows = absurd (true_no_false (ap (λ l. passes test (next l)) joined ∙ chosen.of_one front rest x p) h)

    cannot_one : (front rest : List Symbol) → passes test (next (front ++ rest)) ≡ true → CannotStand One Follows front rest → CannotStand (SpellsEither One Other) Follows front rest
    cannot_one front [] h wrong = λ b. wrong (begun_one front (ap (λ l. passes test (next l)) (sym (append-nil front)) ∙ h) b)
    cannot_one front (s ∷ rest) h wrong = λ more b. wrong more (begun_one (front ++ s ∷ more) (ap (passes test) (next_kept front s rest more) ∙ h) b)

    cannot_other : (front rest : List Symbol) → passes test (next (front ++ rest)) ≡ false → CannotStand Other Follows front rest → CannotStand (SpellsEither One Other) Follows front rest
    cannot_other front [] h wrong = λ b. wrong (begun_other front (ap (λ l. passes test (next l)) (sym (append-nil front)) ∙ h) b)
    cannot_other front (s ∷ rest) h wrong = λ more b. wrong more (begun_other (front ++ s ∷ more) (ap (passes test) (next_kept front s rest more) ∙ h) b)

    found : (b : Bool) (symbols rest : List Symbol) → passes test (next symbols) ≡ b → cond b (one_read symbols) (other_read symbols) ≡ fault rest
        → IsFault (SpellsEither One Other) Follows symbols rest
    found true symbols rest h e =
        let f = one_is.faulty symbols rest e in
        record {
          front = f.front;
          joined = f.joined;
          beginning = record { more = f.beginning.more; value = f.beginning.value; spelled = this_way f.beginning.spelled };
          wrong = cannot_one f.front rest (ap (λ l. passes test (next l)) (sym f.joined) ∙ h) f.wrong;
        }
    found false symbols rest h e =
        let f = other_is.faulty symbols rest e in
        record {
          front = f.front;
          joined = f.joined;
          beginning = record { more = f.beginning.more; value = f.beginning.value; spelled = other_way f.beginning.spelled };
          wrong = cannot_other f.front rest (ap (λ l. passes test (next l)) (sym f.joined) ∙ h) f.wrong;
        }
