-- The versions that a trie keeps, and what each says of a key.
use Rattle.std.specs.Prelude.{◌≡◌, ◌<◌, ℕ, List, length, Option}
use Rattle.persistent_trie.specs.Nodes.{node_at, value_at}
use Rattle.persistent_trie.specs.declared.node.Node.{Node}
use Rattle.persistent_trie.specs.declared.node.Node.TheVariants.{Empty}
use Rattle.persistent_trie.specs.declared.trie.Root.{Root}

-- the first node is the empty version
abbrev pub StartsEmpty : {V : Type 0} → List (Node V) → Type 0
StartsEmpty nodes = (0 < length nodes) × (node_at nodes 0 ≡ Empty)

-- the root is that of a version
abbrev pub IsVersion : {V : Type 0} → List (Node V) → Root → Type 0
IsVersion nodes root = root.0 < length nodes

-- what a version says of a key, which has 32 bits
unfoldable pub says : {V : Type 0} → List (Node V) → Root → ℕ → Option V
says nodes root key = value_at nodes 32 root.0 key

-- all versions are there later on, and say what they said
pub record Keeps {V : Type 0} (old new : List (Node V)) : Type 0 where
  pub there : (root : Root) → IsVersion old root → IsVersion new root
  pub same : (root : Root) → IsVersion old root → (key : ℕ) → says new root key ≡ says old root key
