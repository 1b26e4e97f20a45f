-- Laws of the search for overlaps: which things conflict, and that a delta is looked at once, against all later ones together.
use Rattle.std.specs.Prelude.{◌≡◌, ◌⊎◌, ◌↔◌, ℕ, List, [], ◌∷◌, Contains, IsTrue}
use Rattle.std.specs.List.{flat_map}
use Rattle.dj_names.specs.Texts.{Text}
use Rattle.dj_tree.specs.Trees.{Delta, Part, Source}
use Rattle.dj_calculus.specs.Configurations.{Configuration}
use Rattle.dj_calculus.specs.Parts.{chain, active}
use Rattle.dj_calculus.specs.Things.{Piece, whole, mention, only, Thing, things}
use Rattle.dj_calculus.specs.Conflicts.{conflict, ConflictAt, Disjoint, LeastConflict}
use Rattle.dj_product_laws.specs.LeastPairs.{IsLeastPair}
use Rattle.dj_product_laws.specs.LineConflicts.{ConflictIn}
use Rattle.dj_product_laws.specs.Overlaps.{ThingsConflict, ConflictAmong}

-- A whole class conflicts with all that touches the class, the mention of it with the whole class, and a piece of it with the whole class and
-- with the same piece.
pub record ThingsThatConflict : Type 0 where
  pub of_whole : (class : Text) (at : ℕ) (b : Thing) → IsTrue (conflict (record { class = class; touch = whole; at = at }) b) ↔ (class ≡ b.class)
  pub of_mention : (class : Text) (at : ℕ) (b : Thing) → IsTrue (conflict (record { class = class; touch = mention; at = at }) b)
      ↔ ((class ≡ b.class) × (b.touch ≡ whole))
  pub of_piece : (class : Text) (p : Piece) (at : ℕ) (b : Thing) → IsTrue (conflict (record { class = class; touch = only p; at = at }) b)
      ↔ ((class ≡ b.class) × ((b.touch ≡ whole) ⊎ (b.touch ≡ only p)))

-- two deltas conflict where their things do
abbrev pub DeltasByThings : Type 0
DeltasByThings = (one other : Delta) (first second : ℕ) → ConflictAt one other first second ↔ ThingsConflict (things one) (things other) first second

-- so their least conflict is the least pair, and they are disjoint where there is none
abbrev pub LeastByThings : Type 0
LeastByThings = (one other : Delta) (first second : ℕ) → LeastConflict one other first second
    ↔ IsLeastPair (ThingsConflict (things one) (things other)) first second

abbrev pub DisjointByThings : Type 0
DisjointByThings = (one other : Delta) → Disjoint one other ↔ ((first second : ℕ) → ¬ (ThingsConflict (things one) (things other) first second))

-- no thing conflicts with those of an empty list; a thing more conflicts at its own place
pub record ThingByThing : Type 0 where
  pub none : (others : List Thing) (first second : ℕ) → ¬ (ThingsConflict [] others first second)
  pub more : (a : Thing) (ones others : List Thing) (first second : ℕ) → ThingsConflict (a ∷ ones) others first second
      ↔ (((a.at ≡ first) × ((b : Thing) × Contains others b × IsTrue (conflict a b) × (b.at ≡ second))) ⊎ ThingsConflict ones others first second)

-- no delta conflicts among none; one delta more, before the others, conflicts with the things of all of them
pub record DeltaByDelta : Type 0 where
  pub none : (first second : ℕ) → ¬ (ConflictAmong [] first second)
  pub more : (d : Delta) (deltas : List Delta) (first second : ℕ) → ConflictAmong (d ∷ deltas) first second
      ↔ (ThingsConflict (things d) (flat_map things deltas) first second ⊎ ConflictAmong deltas first second)

-- the conflicts of a configuration are those among the active deltas of its parts
abbrev pub PartByPart : Type 0
PartByPart = (source : Source) (c : Configuration) (first second : ℕ)
    → ConflictIn source c first second ↔ ((part : Part) × Contains (chain source) part × ConflictAmong (active source c part) first second)
