-- Order words: the deltas that their pieces name, and when an order of numbers is allowed.
use Rattle.std.specs.Prelude.{◌≡◌, ℕ, ◌<◌, ◌≤◌, List, [], ◌∷◌, ◌++◌, map, filter, length, slice_get, Some, None, All, ⊤}
use Rattle.std.specs.List.Sorted.{IsPermutation}
use Rattle.dj_names.specs.Texts.{Text}
use Rattle.dj_tree.specs.Trees.{Source}
use Rattle.dj_calculus.specs.Configurations.{Configuration}
use Rattle.dj_calculus.specs.Parts.{delta_named}
use Rattle.dj_calculus.specs.Products.{OrderFault, unknown_delta, not_allowed, OrderWordFault}
use Rattle.dj_line.specs.Orders.{is_active}
use Rattle.dj_line.specs.Placing.{numbers_along}
use Rattle.dj_line.specs.declared.errors.OrderError.{OrderError}
use Rattle.dj_line.specs.declared.errors.OrderError.TheVariants.{UnknownDelta, NotAllowed, NoMemory}

-- the error of a fault
abbrev pub order_error : OrderFault → OrderError
order_error (unknown_delta k) = UnknownDelta k
order_error not_allowed = NotAllowed

-- the piece of this number names no delta
pub record IsUnknown (source : Source) (pieces : List Text) (k : ℕ) : Type 0 where
  pub piece : Text
  pub at : slice_get pieces k ≡ Some piece
  pub none : delta_named source piece ≡ None

-- the error has its cause in the pieces: the leftmost that names no delta
abbrev pub IsPieceOrderError : Source → List Text → OrderError → Type 0
IsPieceOrderError source pieces (UnknownDelta k) = IsUnknown source pieces k × ((other : ℕ) → IsUnknown source pieces other → k ≤ other)
IsPieceOrderError source pieces NotAllowed = ⊥
IsPieceOrderError source pieces NoMemory = ⊤

-- the error has its cause in the word
abbrev pub IsOrderWordError : Source → Configuration → Text → OrderError → Type 0
IsOrderWordError source c word (UnknownDelta k) = OrderWordFault source c word (unknown_delta k)
IsOrderWordError source c word NotAllowed = OrderWordFault source c word not_allowed
IsOrderWordError source c word NoMemory = ⊤

-- the pieces name the deltas of these numbers
pub record AreNamed (source : Source) (pieces : List Text) (numbers : List ℕ) : Type 0 where
  pub each : map (delta_named source) pieces ≡ map (slice_get source.deltas) numbers
  pub below : All (λ n. n < length source.deltas) numbers

-- the numbers are those of each list, list by list, each list's in any order
pub data InOrder : List (List ℕ) → List ℕ → Type 0 where
  no_lists : InOrder [] []
  list_and : {list : List ℕ} {lists : List (List ℕ)} {mine later : List ℕ} → IsPermutation list mine → InOrder lists later → InOrder (list ∷ lists) (mine ++ later)

-- the numbers of the active deltas of each part along the chain
abbrev pub active_along : Source → Configuration → List (List ℕ)
active_along source c = map (filter (is_active source c)) (numbers_along source)
