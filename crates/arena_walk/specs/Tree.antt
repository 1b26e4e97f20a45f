-- Trees of nodes of one type. A node stands over any number of trees, its children, in order.
use Rattle.std.specs.Prelude.{ℕ, ◌+◌, List, [], ◌∷◌, ◌++◌}

mutual
  pub data Tree (N : Type 0) : Type 0 where
    branch : N → Trees N → Tree N

  -- the children of one node
  pub data Trees (N : Type 0) : Type 0 where
    no_trees : Trees N
    tree_and : Tree N → Trees N → Trees N

abbrev pub trees_of : {N : Type 0} → List (Tree N) → Trees N
trees_of [] = no_trees
trees_of (t ∷ ts) = tree_and t (trees_of ts)

abbrev pub list_of : {N : Type 0} → Trees N → List (Tree N)
list_of no_trees = []
list_of (tree_and t ts) = t ∷ list_of ts

-- the tree of a node with these children
abbrev pub over : {N : Type 0} → N → List (Tree N) → Tree N
over n kids = branch n (trees_of kids)

abbrev pub root_of : {N : Type 0} → Tree N → N
root_of (branch n ks) = n

abbrev pub children_of : {N : Type 0} → Tree N → List (Tree N)
children_of (branch n ks) = list_of ks

-- how many nodes a tree has
abbrev mutual
  pub size : {N : Type 0} → Tree N → ℕ
  size (branch n ks) = size_each ks + 1

  pub size_each : {N : Type 0} → Trees N → ℕ
  size_each no_trees = 0
  size_each (tree_and t ts) = size t + size_each ts

-- the nodes of a tree in post-order: those of its children in order, and then its root
abbrev mutual
  pub nodes : {N : Type 0} → Tree N → List N
  nodes (branch n ks) = nodes_each ks ++ n ∷ []

  pub nodes_each : {N : Type 0} → Trees N → List N
  nodes_each no_trees = []
  nodes_each (tree_and t ts) = nodes t ++ nodes_each ts

-- the numbers of a tree's nodes in post-order, where they are counted from a first number on
abbrev mutual
  pub numbers : {N : Type 0} → ℕ → Tree N → List ℕ
  numbers first (branch n ks) = numbers_each first ks ++ (first + size_each ks) ∷ []

  pub numbers_each : {N : Type 0} → ℕ → Trees N → List ℕ
  numbers_each first no_trees = []
  numbers_each first (tree_and t ts) = numbers first t ++ numbers_each (first + size t) ts

-- P holds of the tree of each node of a tree, and of that node's number, counted so
abbrev mutual
  pub EachNode : {N : Type 0} → (Tree N → ℕ → Type 0) → ℕ → Tree N → Type 0
  EachNode P first (branch n ks) = EachNodeOf P first ks × P (branch n ks) (first + size_each ks)

  pub EachNodeOf : {N : Type 0} → (Tree N → ℕ → Type 0) → ℕ → Trees N → Type 0
  EachNodeOf P first no_trees = Unit {0}
  EachNodeOf P first (tree_and t ts) = EachNode P first t × EachNodeOf P (first + size t) ts

-- what `step` gives for a tree, once each child has given its value
abbrev mutual
  pub fold_tree : {N A : Type 0} → (N → List A → A) → Tree N → A
  fold_tree step (branch n ks) = step n (fold_each step ks)

  pub fold_each : {N A : Type 0} → (N → List A → A) → Trees N → List A
  fold_each step no_trees = []
  fold_each step (tree_and t ts) = fold_tree step t ∷ fold_each step ts
