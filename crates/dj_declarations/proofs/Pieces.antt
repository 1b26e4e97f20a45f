-- Readers of pieces of declarations.
use Rattle.std.proofs.Common.{◌≡◌, ℕ, true, false, List, [], ◌∷◌, ◌++◌, Option, None, refl, sym, subst}
use Rattle.std.specs.Prelude.{codes}
use Rattle.dj_names.specs.Texts.{Text}
use Rattle.dj_lexer.specs.Symbols.{Symbol}
use Rattle.dj_tree.specs.Words.{word, sign, named, IsName}
use Rattle.dj_tree.specs.Trees.{Spot}
use Rattle.dj_tree.specs.Repeats as repeats
use Rattle.dj_tree.specs.Repeats.{Many}
use Rattle.dj_tree.specs.ClassGrammar.{SpellsOptional, omitted}
use Rattle.dj_tree.specs.ClassGrammar as classes
use Rattle.dj_reader.specs.Terminals.{is_the_word, is_the_sign}
use Rattle.dj_reader.specs.Reading.{Outcome, next, IsReader, Anything}
use Rattle.dj_reader.specs.Combining.{SpellsSign, the_sign, SpellsWord, the_word, SpellsName, the_name, SpellsBoth, one_and_other, SpellsMapped, changed}
use Rattle.dj_reader.specs.Combining.{passes, SpellsUntil, closed, optionally, SpellsOptionally, left_out, given}
use Rattle.dj_reader.proofs.Symbols.{sign_is, is_word}
use Rattle.dj_reader.proofs.Laws.{both_reads, Joins, mapped_reads, same_reads}
use Rattle.dj_reader.proofs.Repeating.{Pieces, until_reads}
use Rattle.dj_reader.proofs.Pieces.{sign_reads, word_reads, name_reads, some_name, some_name_is, optionally_reads}
use Rattle.dj_declarations.specs.Readings.{second, behind, word_and_name, braced}

-- spelled by an equal list
pub moved : {X : Type 0} (Spells : List Symbol → X → Type 0) (x : X) {s t : List Symbol} → s ≡ t → Spells s x → Spells t x
moved Spells x e p = let P : List Symbol → Type 0 = λ l. Spells l x in subst P e p

-- where anything may follow the first, the second may
pub joins_any : {X Y : Type 0} {First : List Symbol → X → Type 0} {Second : List Symbol → Y → Type 0} {Behind : Option Symbol → Type 0} (t : List Symbol) (y : Y) → Second t y
    → Joins First Anything Second Behind
joins_any t y p = record { leads = λ s rest x q f. tt; symbols = t; value = y; spelled = p }

pub behind_reads : {X Y : Type 0} {First : List Symbol → X → Type 0} {After : Option Symbol → Type 0} {Second : List Symbol → Y → Type 0} {Follows : Option Symbol → Type 0}
    {first : List Symbol → Outcome X} {read : List Symbol → Outcome Y} → Joins First After Second Follows → IsReader First After first → IsReader Second Follows read
    → IsReader (SpellsMapped second (SpellsBoth First Second)) Follows (behind first read)
behind_reads joins one_is is = mapped_reads second (both_reads joins one_is is)

-- a word with a name
pub data SpellsWordName (text : Text) : List Symbol → Spot → Type 0 where
  word_name : (at : ℕ) (x : Spot) → IsName x → SpellsWordName text (word text at ∷ named x ∷ []) x

pub word_name_reads : (text : Text) → IsReader (SpellsWordName text) Anything (word_and_name text)
word_name_reads text =
    same_reads (record { to = to; from = from }) (behind_reads (joins_any (named some_name ∷ []) some_name (the_name some_name some_name_is)) (word_reads text) name_reads)
  where
    to : (s : List Symbol) (x : Spot) → SpellsMapped second (SpellsBoth (SpellsWord text) SpellsName) s x → SpellsWordName text s x
    to s x (changed (one_and_other (the_word at) (the_name y i))) = word_name at y i

    from : (s : List Symbol) (x : Spot) → SpellsWordName text s x → SpellsMapped second (SpellsBoth (SpellsWord text) SpellsName) s x
    from s x (word_name at y i) = changed (one_and_other (the_word at) (the_name y i))

-- pieces in braces
pub data SpellsBraced {X : Type 0} (Spells : List Symbol → X → Type 0) : List Symbol → List X → Type 0 where
  in_braces : {s : List Symbol} {xs : List X} (opening closing : ℕ) → Many Spells s xs → SpellsBraced Spells (sign (codes "{") opening ∷ (s ++ sign (codes "}") closing ∷ [])) xs

pub no_pieces : {X : Type 0} {Spells : List Symbol → X → Type 0} → SpellsBraced Spells (sign (codes "{") 0 ∷ sign (codes "}") 0 ∷ []) []
no_pieces = in_braces 0 0 repeats.none

-- Pieces that begin with another symbol than `}`.
abbrev pub BeginsOpen : {X : Type 0} → (List Symbol → X → Type 0) → Type 0
BeginsOpen {X} Spells =
    (s : List Symbol) (x : X) → Spells s x → (first : Symbol) × ((rest : List Symbol) × (s ≡ first ∷ rest) × (is_the_sign (codes "}") first ≡ false))

pub up_to_brace : {X : Type 0} {Spells : List Symbol → X → Type 0} → BeginsOpen Spells → Pieces (is_the_sign (codes "}")) Spells
up_to_brace begins = record { begins = begins; close = sign (codes "}") 0; closing = refl }

pub braced_reads : {X : Type 0} {Spells : List Symbol → X → Type 0} {piece : List Symbol → Outcome X} → BeginsOpen Spells → IsReader Spells Anything piece
    → IsReader (SpellsBraced Spells) Anything (braced piece)
braced_reads {X = X} {Spells = Spells} begins is =
    same_reads (record { to = to; from = from })
    (behind_reads (joins_any (sign (codes "}") 0 ∷ []) [] (closed (sign (codes "}") 0) repeats.none refl)) (sign_reads (codes "{")) (until_reads (up_to_brace begins) is))
  where
    to : (s : List Symbol) (xs : List X) → SpellsMapped second (SpellsBoth (SpellsSign (codes "{")) (SpellsUntil (is_the_sign (codes "}")) Spells)) s xs → SpellsBraced Spells s xs
    to s xs (changed (one_and_other (the_sign at) (closed {s = body} {xs = ys} c many h))) =
        let P : Symbol → Type 0 = λ y. SpellsBraced Spells (sign (codes "{") at ∷ (body ++ y ∷ [])) ys in
        subst P (sym (sign_is (codes "}") c h)) (in_braces at c.at many)

    from : (s : List Symbol) (xs : List X) → SpellsBraced Spells s xs → SpellsMapped second (SpellsBoth (SpellsSign (codes "{")) (SpellsUntil (is_the_sign (codes "}")) Spells)) s xs
    from s xs (in_braces a b many) = changed (one_and_other (the_sign a) (closed (sign (codes "}") b) many refl))

-- ---- a name, a part that may be left out with its word, and pieces in braces

-- [ word NAME ] "{" { piece } "}"
pub data SpellsHead {X : Type 0} (text : Text) (Spells : List Symbol → X → Type 0) : List Symbol → Option Spot × List X → Type 0 where
  head : {extension body : List Symbol} {other : Option Spot} {xs : List X} (opening closing : ℕ) → SpellsOptional text extension other → Many Spells body xs
      → SpellsHead text Spells (extension ++ sign (codes "{") opening ∷ (body ++ sign (codes "}") closing ∷ [])) (other, xs)

pub head_reads : {X : Type 0} {Spells : List Symbol → X → Type 0} {piece : List Symbol → Outcome X} (text : Text) → BeginsOpen Spells → IsReader Spells Anything piece
    → IsReader (SpellsHead text Spells) Anything (optionally (is_the_word text) (word_and_name text) (braced piece))
head_reads {X = X} {Spells = Spells} text begins is =
    same_reads (record { to = to; from = from })
    (optionally_reads (record { one_begins = one_begins; body_begins = body_begins }) (joins_any (sign (codes "{") 0 ∷ sign (codes "}") 0 ∷ []) [] no_pieces) (word_name_reads text)
    (braced_reads begins is))
  where
    one_begins : (s rest : List Symbol) (x : Spot) → SpellsWordName text s x → passes (is_the_word text) (next (s ++ rest)) ≡ true
    one_begins s rest x (word_name at y i) = is_word text at

    body_begins : (s rest : List Symbol) (xs : List X) → SpellsBraced Spells s xs → passes (is_the_word text) (next (s ++ rest)) ≡ false
    body_begins s rest xs (in_braces a b many) = refl

    to : (s : List Symbol) (v : Option Spot × List X) → SpellsOptionally (SpellsWordName text) (SpellsBraced Spells) s v → SpellsHead text Spells s v
    to s v (left_out (in_braces a b many)) = head a b omitted many
    to s v (given (word_name at x i) (in_braces a b many)) = head a b (classes.given at x i) many

    from : (s : List Symbol) (v : Option Spot × List X) → SpellsHead text Spells s v → SpellsOptionally (SpellsWordName text) (SpellsBraced Spells) s v
    from s v (head a b omitted many) = left_out (in_braces a b many)
    from s v (head a b (classes.given at x i) many) = given (word_name at x i) (in_braces a b many)

pub some_head : {X : Type 0} (Spells : List Symbol → X → Type 0) (text : Text) → SpellsHead text Spells (sign (codes "{") 0 ∷ sign (codes "}") 0 ∷ []) (None, [])
some_head Spells text = head 0 0 omitted repeats.none
