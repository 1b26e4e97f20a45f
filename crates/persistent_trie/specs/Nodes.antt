-- Tries over the bits of keys, the lowest bit first, in a list of nodes. A subtree is named by the number of its root.
use Rattle.std.specs.Prelude.{◌≡◌, ◌==◌, ◌<◌, ◌/◌, ◌%◌, ℕ, zero, suc, Bool, true, false, List, [], ◌∷◌, length, get_or, Option, Some, None}
use Rattle.persistent_trie.specs.declared.node.Node.{Node}
use Rattle.persistent_trie.specs.declared.node.Node.TheVariants.{Empty, Leaf, Fork}

-- the node of a number; there is nothing where there is no node
abbrev pub node_at : {V : Type 0} → List (Node V) → ℕ → Node V
node_at nodes at = get_or nodes at Empty

-- the value of a node
abbrev pub held_by : {V : Type 0} → Node V → Option V
held_by (Leaf value) = Some value
held_by node = None

-- the subtree of the keys with this bit; a node that is no fork stands for both
abbrev pub side_of : {V : Type 0} → Node V → ℕ → Bool → ℕ
side_of (Fork evens odds) at true = odds
side_of (Fork evens odds) at false = evens
side_of node at bit = at

abbrev pub is_odd : ℕ → Bool
is_odd key = key % 2 == 1

-- the value of a key in a subtree with so many levels of forks
abbrev pub value_at : {V : Type 0} → List (Node V) → ℕ → ℕ → ℕ → Option V
value_at nodes zero at key = held_by (node_at nodes at)
value_at nodes (suc levels) at key = value_at nodes levels (side_of (node_at nodes at) at (is_odd key)) (key / 2)

-- the subtrees of each fork are there
abbrev pub AreLinked : {V : Type 0} → List (Node V) → Type 0
AreLinked nodes = (at evens odds : ℕ) → node_at nodes at ≡ Fork evens odds → (evens < length nodes) × (odds < length nodes)

-- ---- one key changed

-- the fork in place of a node, with another subtree on the side of a bit
abbrev pub forked : {V : Type 0} → Node V → ℕ → Bool → ℕ → Node V
forked node at true next = Fork (side_of node at false) next
forked node at false next = Fork next (side_of node at true)

-- the nodes in place of those on the way to a key, from the number `next` on
abbrev pub path_of : {V : Type 0} → List (Node V) → ℕ → ℕ → ℕ → ℕ → V → List (Node V)
path_of nodes zero at key next value = Leaf value ∷ []
path_of nodes (suc levels) at key next value =
    forked (node_at nodes at) at (is_odd key) (suc next) ∷ path_of nodes levels (side_of (node_at nodes at) at (is_odd key)) (key / 2) (suc next) value
