-- When two deltas overlap: some of their things conflict.
use Rattle.std.specs.Prelude.{◌≡◌, ◌⊎◌, ℕ, ◌<◌, ◌≤◌, Bool, true, false, ◌&&◌, IsTrue, Contains}
use Rattle.std.specs.Str.{bytes_eq}
use Rattle.dj_tree.specs.Trees.{Delta}
use Rattle.dj_calculus.specs.Things.{Piece, superclass, field_named, method_named, Touch, whole, mention, only, Thing, things}

-- both are the superclass, or the field or the method of one name
abbrev pub same_piece : Piece → Piece → Bool
same_piece superclass superclass = true
same_piece (field_named f) (field_named g) = bytes_eq f g
same_piece (method_named m) (method_named n) = bytes_eq m n
same_piece a b = false

-- one is the whole class, or both are the same piece of it
abbrev pub collide : Touch → Touch → Bool
collide whole b = true
collide mention whole = true
collide mention mention = false
collide mention (only q) = false
collide (only p) whole = true
collide (only p) mention = false
collide (only p) (only q) = same_piece p q

abbrev pub conflict : Thing → Thing → Bool
conflict a b = bytes_eq a.class b.class && collide a.touch b.touch

-- a thing of each at these places, and the two conflict
pub record ConflictAt (one other : Delta) (first second : ℕ) : Type 0 where
  pub a : Thing
  pub b : Thing
  pub of_one : Contains (things one) a
  pub of_other : Contains (things other) b
  pub clash : IsTrue (conflict a b)
  pub first_at : a.at ≡ first
  pub second_at : b.at ≡ second

abbrev pub Overlap : Delta → Delta → Type 0
Overlap one other = (first : ℕ) × ((second : ℕ) × ConflictAt one other first second)

abbrev pub Disjoint : Delta → Delta → Type 0
Disjoint one other = ¬ (Overlap one other)

-- the conflicting pair that is least by the place in the first delta, and then by the place in the other
pub record LeastConflict (one other : Delta) (first second : ℕ) : Type 0 where
  pub clash : ConflictAt one other first second
  pub least : (p q : ℕ) → ConflictAt one other p q → (first < p) ⊎ ((first ≡ p) × (second ≤ q))
