-- Repeated pieces of a grammar.
use Rattle.std.specs.Prelude.{ℕ, List, [], ◌∷◌, ◌++◌, codes}
use Rattle.dj_lexer.specs.Symbols.{Symbol}
use Rattle.dj_tree.specs.Words.{sign}

-- { piece }
pub data Many {X : Type 0} (Spells : List Symbol → X → Type 0) : List Symbol → List X → Type 0 where
  none : Many Spells [] []
  more : {front rest : List Symbol} {x : X} {xs : List X} → Spells front x → Many Spells rest xs → Many Spells (front ++ rest) (x ∷ xs)

-- "," piece
pub data AfterComma {X : Type 0} (Spells : List Symbol → X → Type 0) : List Symbol → X → Type 0 where
  after_comma : {piece : List Symbol} {x : X} (comma : ℕ) → Spells piece x → AfterComma Spells (sign (codes ",") comma ∷ piece) x

-- [ piece { "," piece } ]
pub data Listing {X : Type 0} (Spells : List Symbol → X → Type 0) : List Symbol → List X → Type 0 where
  nothing : Listing Spells [] []
  listed : {first others : List Symbol} {x : X} {xs : List X} → Spells first x → Many (AfterComma Spells) others xs → Listing Spells (first ++ others) (x ∷ xs)
