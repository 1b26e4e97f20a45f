-- Readings made of readings, beside the grammars that they read.
use Rattle.std.specs.Prelude.{◌≡◌, ℕ, zero, suc, ◌+◌, Bool, true, false, List, [], ◌∷◌, ◌++◌, length, Option, Some, None, codes, if◌then◌else◌}
use Rattle.dj_names.specs.Texts.{Text}
use Rattle.dj_lexer.specs.Symbols.{Symbol}
use Rattle.dj_tree.specs.Trees.{Spot}
use Rattle.dj_tree.specs.Words.{word, sign, named, IsName}
use Rattle.dj_tree.specs.Repeats.{Many, Listing}
use Rattle.dj_reader.specs.Terminals.{is_the_word, is_the_sign, is_a_name, spot_of}
use Rattle.dj_reader.specs.Reading.{Outcome, got, fault, next}

-- what is read of an outcome's rest
abbrev pub and_then : {X Y : Type 0} → Outcome X → (X → List Symbol → Outcome Y) → Outcome Y
and_then (got x rest) read = read x rest
and_then (fault rest) read = fault rest

-- ---- single symbols

-- a symbol that passes a test, with what is taken of it
abbrev pub one : {X : Type 0} → (Symbol → Bool) → (Symbol → X) → List Symbol → Outcome X
one test value [] = fault []
one test value (s ∷ rest) = if test s then got (value s) rest else fault (s ∷ rest)

pub data SpellsOne {X : Type 0} (test : Symbol → Bool) (value : Symbol → X) : List Symbol → X → Type 0 where
  one_symbol : (s : Symbol) → test s ≡ true → SpellsOne test value (s ∷ []) (value s)

-- this bracket or mark, this word, with its place, and a name
abbrev pub at_of : Symbol → ℕ
at_of s = s.at

abbrev pub a_sign : Text → List Symbol → Outcome ℕ
a_sign text symbols = one (is_the_sign text) at_of symbols

abbrev pub a_word : Text → List Symbol → Outcome ℕ
a_word text symbols = one (is_the_word text) at_of symbols

abbrev pub a_name : List Symbol → Outcome Spot
a_name symbols = one is_a_name spot_of symbols

pub data SpellsSign (text : Text) : List Symbol → ℕ → Type 0 where
  the_sign : (at : ℕ) → SpellsSign text (sign text at ∷ []) at

pub data SpellsWord (text : Text) : List Symbol → ℕ → Type 0 where
  the_word : (at : ℕ) → SpellsWord text (word text at ∷ []) at

pub data SpellsName : List Symbol → Spot → Type 0 where
  the_name : (x : Spot) → IsName x → SpellsName (named x ∷ []) x

-- ---- one after the other

abbrev pub both : {X Y : Type 0} → (List Symbol → Outcome X) → (List Symbol → Outcome Y) → List Symbol → Outcome (X × Y)
both first second symbols = and_then (first symbols) (λ x rest. and_then (second rest) (λ y behind. got (x, y) behind))

pub data SpellsBoth {X Y : Type 0} (First : List Symbol → X → Type 0) (Second : List Symbol → Y → Type 0) : List Symbol → X × Y → Type 0 where
  one_and_other : {s t : List Symbol} {x : X} {y : Y} → First s x → Second t y → SpellsBoth First Second (s ++ t) (x, y)

-- ---- with another value

abbrev pub mapped : {X Y : Type 0} → (X → Y) → (List Symbol → Outcome X) → List Symbol → Outcome Y
mapped change read symbols = and_then (read symbols) (λ x rest. got (change x) rest)

pub data SpellsMapped {X Y : Type 0} (change : X → Y) (Spells : List Symbol → X → Type 0) : List Symbol → Y → Type 0 where
  changed : {s : List Symbol} {x : X} → Spells s x → SpellsMapped change Spells s (change x)

-- ---- chosen by the next symbol

abbrev pub passes : (Symbol → Bool) → Option Symbol → Bool
passes test None = false
passes test (Some s) = test s

abbrev pub either : {X : Type 0} → (Symbol → Bool) → (List Symbol → Outcome X) → (List Symbol → Outcome X) → List Symbol → Outcome X
either test one_read other_read symbols = if passes test (next symbols) then one_read symbols else other_read symbols

pub data SpellsEither {X : Type 0} (One Other : List Symbol → X → Type 0) : List Symbol → X → Type 0 where
  this_way : {s : List Symbol} {x : X} → One s x → SpellsEither One Other s x
  other_way : {s : List Symbol} {x : X} → Other s x → SpellsEither One Other s x

-- ---- pieces up to a closing symbol, or up to the end

-- so many at most
abbrev pub until_at : {X : Type 0} → ℕ → (Symbol → Bool) → (List Symbol → Outcome X) → List Symbol → Outcome (List X)
until_at zero closes piece symbols = fault symbols
until_at (suc count) closes piece [] = fault []
until_at (suc count) closes piece (s ∷ rest) =
    if closes s
    then got [] rest
    else and_then (piece (s ∷ rest)) (λ x behind. and_then (until_at count closes piece behind) (λ xs end. got (x ∷ xs) end))

-- the pieces, and the closing symbol behind them
unfoldable pub until : {X : Type 0} → (Symbol → Bool) → (List Symbol → Outcome X) → List Symbol → Outcome (List X)
until closes piece symbols = until_at (length symbols + 1) closes piece symbols

pub data SpellsUntil {X : Type 0} (closes : Symbol → Bool) (Spells : List Symbol → X → Type 0) : List Symbol → List X → Type 0 where
  closed : {s : List Symbol} {xs : List X} (close : Symbol) → Many Spells s xs → closes close ≡ true → SpellsUntil closes Spells (s ++ close ∷ []) xs

abbrev pub to_end_at : {X : Type 0} → ℕ → (List Symbol → Outcome X) → List Symbol → Outcome (List X)
to_end_at count piece [] = got [] []
to_end_at zero piece (s ∷ rest) = fault (s ∷ rest)
to_end_at (suc count) piece (s ∷ rest) = and_then (piece (s ∷ rest)) (λ x behind. and_then (to_end_at count piece behind) (λ xs end. got (x ∷ xs) end))

unfoldable pub to_end : {X : Type 0} → (List Symbol → Outcome X) → List Symbol → Outcome (List X)
to_end piece symbols = to_end_at (length symbols) piece symbols

-- ---- what may be left out

-- where the next symbol passes the test the first is read, and then the body
abbrev pub optionally : {X Y : Type 0} → (Symbol → Bool) → (List Symbol → Outcome X) → (List Symbol → Outcome Y) → List Symbol → Outcome (Option X × Y)
optionally test read body symbols = either test (both (mapped Some read) body) (mapped (λ y. (None, y)) body) symbols

pub data SpellsOptionally {X Y : Type 0} (One : List Symbol → X → Type 0) (Body : List Symbol → Y → Type 0) : List Symbol → Option X × Y → Type 0 where
  left_out : {s : List Symbol} {y : Y} → Body s y → SpellsOptionally One Body s (None, y)
  given : {s t : List Symbol} {x : X} {y : Y} → One s x → Body t y → SpellsOptionally One Body (s ++ t) (Some x, y)

-- ---- lists with commas, up to a closing symbol

abbrev pub comma_and : {X : Type 0} → (List Symbol → Outcome X) → List Symbol → Outcome X
comma_and piece symbols = mapped (λ p. p.1) (both (a_sign (codes ",")) piece) symbols

abbrev pub listing : {X : Type 0} → Text → (List Symbol → Outcome X) → List Symbol → Outcome (List X)
listing close piece symbols =
    either (is_the_sign close) (mapped (λ at. []) (a_sign close)) (mapped (λ p. p.0 ∷ p.1) (both piece (until (is_the_sign close) (comma_and piece)))) symbols

pub data SpellsListing {X : Type 0} (close : Text) (Spells : List Symbol → X → Type 0) : List Symbol → List X → Type 0 where
  closed_list : {s : List Symbol} {xs : List X} (at : ℕ) → Listing Spells s xs → SpellsListing close Spells (s ++ sign close at ∷ []) xs
