-- The trees of a list of nodes in post-order, where each node tells its number of children, its arity.
use Rattle.std.specs.Prelude.{◌≡◌, ℕ, ◌+◌, ◌-◌, List, [], ◌∷◌, ◌++◌, length, take, drop, fold, slice_get, Option}
use Rattle.std.specs.Option.{option_map}
use Rattle.arena_walk.specs.Tree.{Tree, branch, trees_of, list_of, over, size, size_each}

-- the last trees of a list, as many as the node's arity
unfoldable pub last_trees : {N : Type 0} → (N → ℕ) → List (Tree N) → N → List (Tree N)
last_trees arity ts n = drop (length ts - arity n) ts

-- the trees after one more node, which takes the last trees as its children
unfoldable pub grow : {N : Type 0} → (N → ℕ) → List (Tree N) → N → List (Tree N)
grow arity ts n = take (length ts - arity n) ts ++ over n (last_trees arity ts n) ∷ []

-- the finished trees of the nodes
unfoldable pub trees : {N : Type 0} → (N → ℕ) → List N → List (Tree N)
trees arity ns = fold (grow arity) [] ns

-- the tree whose root is the node of that number, which is over the last trees of the nodes before it
unfoldable pub tree_at : {N : Type 0} → (N → ℕ) → List N → ℕ → Option (Tree N)
tree_at arity ns at = option_map (λ n. over n (last_trees arity (trees arity (take at ns)) n)) (slice_get ns at)

-- the number of the first node, in post-order, of a tree whose root has the number `at`
abbrev pub first_number : {N : Type 0} → ℕ → Tree N → ℕ
first_number at t = at + 1 - size t

-- the number of the root of the k-th child, where `at` is the parent's: only the children behind it
-- stand between the two
abbrev pub child_number : {N : Type 0} → ℕ → List (Tree N) → ℕ → ℕ
child_number at kids k = at - size_each (trees_of (drop (k + 1) kids)) - 1

-- the root of the tree has as many children as its arity
abbrev pub HasArity : {N : Type 0} → (N → ℕ) → Tree N → Type 0
HasArity arity (branch n ks) = length (list_of ks) ≡ arity n
