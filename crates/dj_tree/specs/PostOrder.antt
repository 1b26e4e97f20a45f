-- Lists of nodes in post-order, where each stands behind the nodes of its children.
use Rattle.std.specs.Prelude.{◌≡◌, ℕ, ◌+◌, ◌-◌, List, [], ◌∷◌, ◌++◌, nat_le, Option, Some, None, if◌then◌else◌}

-- How many trees are finished behind nodes of these arities, where so many are before them: each node takes the last ones, as many as
-- its arity, for its own tree. None, if one of them finds too few.
abbrev pub finished : ℕ → List ℕ → Option ℕ
finished count [] = Some count
finished count (arity ∷ arities) = if nat_le arity count then finished (count - arity + 1) arities else None

-- nodes of these arities are those of one tree in post-order
abbrev pub IsPostOrder : List ℕ → Type 0
IsPostOrder arities = finished 0 arities ≡ Some 1

-- the nodes before stand first, so each tree keeps its number
abbrev pub KeepsNodes : {N : Type 0} → List N → List N → Type 0
KeepsNodes {N} before after = (more : List N) × (after ≡ before ++ more)
