-- Conflicts by lists of things, as a search for them finds them.
use Rattle.std.specs.Prelude.{◌≡◌, ℕ, ◌<◌, List, slice_get, Some, IsTrue, Contains}
use Rattle.dj_tree.specs.Trees.{Delta}
use Rattle.dj_calculus.specs.Things.{Thing}
use Rattle.dj_calculus.specs.Conflicts.{conflict, ConflictAt}

-- a thing of the one list at the first place conflicts with one of the other list at the second
pub record ThingsConflict (ones others : List Thing) (first second : ℕ) : Type 0 where
  pub a : Thing
  pub b : Thing
  pub of_ones : Contains ones a
  pub of_others : Contains others b
  pub clash : IsTrue (conflict a b)
  pub first_at : a.at ≡ first
  pub second_at : b.at ≡ second

-- two of these deltas have things that conflict at these places, the first in the earlier delta
pub record ConflictAmong (deltas : List Delta) (first second : ℕ) : Type 0 where
  pub i : ℕ
  pub j : ℕ
  pub behind : i < j
  pub one : Delta
  pub other : Delta
  pub at_i : slice_get deltas i ≡ Some one
  pub at_j : slice_get deltas j ≡ Some other
  pub clash : ConflictAt one other first second
