-- The entries of a formula: the gates of its nodes in post-order.
use Rattle.std.specs.Prelude.{◌≡◌, ℕ, ◌+◌, ◌≤◌, Bool, true, List, [], ◌∷◌, ◌++◌, map, Some, slice_index_or, if◌then◌else◌}
use Rattle.arena_walk.specs.Tree.{Tree, Trees, branch, no_trees, tree_and, size, size_each}
use Rattle.arena_walk.specs.Forest.{first_number}
use Rattle.dj_formula.specs.declared.formula.Gate.{Gate}
use Rattle.dj_formula.specs.declared.formula.Gate.TheVariants.{Constant, Feature, Not, And, Or, Implies, Same}
use Rattle.dj_formula.specs.declared.formula.Formula.{Formula}
use Rattle.dj_formula.specs.Value.{tree_of}
use Rattle.sat_clauses.specs.declared.literal.Lit.{Lit}
use Rattle.gate_encoder.specs.Entries.{Literal, negated, Entry, all_of, any_of, equal_of}
use Rattle.gate_encoder.specs.Writing.{Written, lit_in}

-- the entry of a node's gate, where it has one, by the node's key and the literals of its operands
abbrev pub node_entries : {K L : Type 0} → (L → L) → K → Gate → List L → List (Entry K L)
node_entries opposite k And lits = all_of k lits ∷ []
node_entries opposite k Or lits = any_of k lits ∷ []
node_entries opposite k Implies (a ∷ b ∷ []) = any_of k (opposite a ∷ b ∷ []) ∷ []
node_entries opposite k Same (a ∷ b ∷ []) = equal_of k a b ∷ []
node_entries opposite k gate lits = []

-- the literal of a node, by those for true and for the features, that of the node's key, and those of its operands
abbrev pub node_literal : {L : Type 0} → (L → L) → L → List L → L → Gate → List L → L
node_literal opposite truth features own (Constant b) lits = if b then truth else opposite truth
node_literal opposite truth features own (Feature f) lits = slice_index_or features f truth
node_literal opposite truth features own Not (a ∷ []) = opposite a
node_literal opposite truth features own Not lits = truth
node_literal opposite truth features own gate lits = own

-- what stands for the parts of a formula: a literal for true, one for each feature, and the keys of the nodes by their numbers
pub record Names (K : Type 0) : Type 0 where
  pub truth : Literal K
  pub features : List (Literal K)
  pub node : ℕ → K

abbrev pub own_literal : {K : Type 0} → K → Literal K
own_literal k = record { key = k; positive = true }

-- the literal of a tree whose nodes have the numbers from the first on, in post-order
abbrev mutual
  pub tree_literal : {K : Type 0} → Names K → ℕ → Tree Gate → Literal K
  tree_literal names first (branch gate kids) =
      node_literal negated names.truth names.features (own_literal (names.node (first + size_each kids))) gate (trees_literals names first kids)

  pub trees_literals : {K : Type 0} → Names K → ℕ → Trees Gate → List (Literal K)
  trees_literals names first no_trees = []
  trees_literals names first (tree_and t ts) = tree_literal names first t ∷ trees_literals names (first + size t) ts

-- the entries of such a tree: those of its children in order, and then that of its root
abbrev mutual
  pub tree_entries : {K : Type 0} → Names K → ℕ → Tree Gate → List (Entry K (Literal K))
  tree_entries names first (branch gate kids) =
      trees_entries names first kids ++ node_entries negated (names.node (first + size_each kids)) gate (trees_literals names first kids)

  pub trees_entries : {K : Type 0} → Names K → ℕ → Trees Gate → List (Entry K (Literal K))
  trees_entries names first no_trees = []
  trees_entries names first (tree_and t ts) = tree_entries names first t ++ trees_entries names (first + size t) ts

-- a number of a node of the formula's tree
pub record IsNodeOf (formula : Formula) (number : ℕ) : Type 0 where
  pub tree : Tree Gate
  pub there : tree_of formula ≡ Some tree
  pub from : first_number formula.root.0 tree ≤ number
  pub to : number ≤ formula.root.0

-- the names stand for these literals, and for the keys that a call gives for the numbers of the formula's nodes
pub record AreNames {K : Type 0} (eq : K → K → Bool) (w : Written K) (formula : Formula) (truth : Lit) (features : List Lit) (gives : ℕ → K → Type 0) (names : Names K) : Type 0 where
  pub truth_is : truth ≡ lit_in eq w names.truth
  pub features_are : features ≡ map (lit_in eq w) names.features
  pub nodes_are : (number : ℕ) (key : K) → IsNodeOf formula number → gives number key → key ≡ names.node number
