-- The trees of a tree's nodes.
use Rattle.std.specs.Prelude.{List, [], ◌∷◌, ◌++◌}
use Rattle.arena_walk.specs.Tree.{Tree, Trees, branch, no_trees, tree_and}

-- in post-order: those of its children in order, and then the whole
abbrev mutual
  pub subtrees : {N : Type 0} → Tree N → List (Tree N)
  subtrees (branch n kids) = subtrees_each kids ++ branch n kids ∷ []

  pub subtrees_each : {N : Type 0} → Trees N → List (Tree N)
  subtrees_each no_trees = []
  subtrees_each (tree_and t kids) = subtrees t ++ subtrees_each kids
