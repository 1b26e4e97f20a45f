-- What a reading of a grammar promises. It takes from the front of some symbols what the grammar spells, where the next symbol may follow that, and
-- else tells the first symbol that can't stand where it stands.
use Rattle.std.specs.Prelude.{◌≡◌, List, [], ◌∷◌, ◌++◌, Option, Some, None}
use Rattle.dj_names.specs.Texts.{Text}
use Rattle.dj_lexer.specs.Symbols.{Symbol}
use Rattle.dj_tree.specs.Words.{sign}

-- a value and the symbols behind it, or the symbols from the fault on, none where the fault is at the end
pub data Outcome (X : Type 0) : Type 0 where
  got : X → List Symbol → Outcome X
  fault : List Symbol → Outcome X

-- the next symbol, or None at the end
abbrev pub next : List Symbol → Option Symbol
next [] = None
next (s ∷ rest) = Some s

-- the symbols begin with what the grammar spells for a value, and go on with the rest, which may follow that
pub record IsTaken {X : Type 0} (Spells : List Symbol → X → Type 0) (Follows : Option Symbol → Type 0) (symbols rest : List Symbol) (x : X) : Type 0 where
  pub front : List Symbol
  pub joined : symbols ≡ front ++ rest
  pub spelled : Spells front x
  pub follows : Follows (next rest)

-- the symbols begin with something that the grammar spells
abbrev pub Begins : {X : Type 0} → (List Symbol → X → Type 0) → (Option Symbol → Type 0) → List Symbol → Type 0
Begins {X} Spells Follows symbols = (rest : List Symbol) × ((x : X) × IsTaken Spells Follows symbols rest x)

-- with some symbols behind them, these are spelled: nothing is wrong so far
pub record IsBeginning {X : Type 0} (Spells : List Symbol → X → Type 0) (symbols : List Symbol) : Type 0 where
  pub more : List Symbol
  pub value : X
  pub spelled : Spells (symbols ++ more) value

-- the first of the symbols from the fault on can't stand behind the front, whatever comes then; at the end, something is missing
abbrev pub CannotStand : {X : Type 0} → (List Symbol → X → Type 0) → (Option Symbol → Type 0) → List Symbol → List Symbol → Type 0
CannotStand Spells Follows front [] = ¬ Begins Spells Follows front
CannotStand Spells Follows front (s ∷ _) = (more : List Symbol) → ¬ Begins Spells Follows (front ++ s ∷ more)

-- where a reading finds a fault: nothing is wrong before it, and there something is
pub record IsFault {X : Type 0} (Spells : List Symbol → X → Type 0) (Follows : Option Symbol → Type 0) (symbols rest : List Symbol) : Type 0 where
  pub front : List Symbol
  pub joined : symbols ≡ front ++ rest
  pub beginning : IsBeginning Spells front
  pub wrong : CannotStand Spells Follows front rest

pub record IsReader {X : Type 0} (Spells : List Symbol → X → Type 0) (Follows : Option Symbol → Type 0) (read : List Symbol → Outcome X) : Type 0 where
  -- what is spelled is read, so nothing else is spelled there
  pub complete : (front rest : List Symbol) (x : X) → Spells front x → Follows (next rest) → read (front ++ rest) ≡ got x rest
  -- what is read is spelled
  pub sound : (symbols rest : List Symbol) (x : X) → read symbols ≡ got x rest → IsTaken Spells Follows symbols rest x
  pub faulty : (symbols rest : List Symbol) → read symbols ≡ fault rest → IsFault Spells Follows symbols rest

-- the next symbol is this bracket or mark
abbrev pub IsSign : Text → Option Symbol → Type 0
IsSign text None = ⊥
IsSign text (Some s) = s ≡ sign text s.at

-- anything may follow, and nothing
abbrev pub Anything : Option Symbol → Type 0
Anything following = Unit {0}

abbrev pub End : Option Symbol → Type 0
End None = Unit {0}
End (Some s) = ⊥
