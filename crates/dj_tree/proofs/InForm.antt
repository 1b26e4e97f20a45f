-- The nodes of a tree whose nodes are put into another form.
use Rattle.std.proofs.Common.{◌≡◌, List, [], ◌∷◌, ◌++◌, map, refl, sym, ap, ap₂, ◌∙◌}
use Rattle.std.proofs.lemmas.List.{map-append}
use Rattle.arena_walk.specs.Tree.{Tree, Trees, branch, no_trees, tree_and, trees_of, over, nodes, nodes_each, fold_each}
use Rattle.dj_tree.specs.Plain.{in_form}

-- what the fold of `in_form` makes of a node
abbrev pub renamed : {N F : Type 0} → (N → F) → N → List (Tree F) → Tree F
renamed form n kids = over (form n) kids

mutual
  pub nodes_in_form : {N F : Type 0} (form : N → F) (t : Tree N) → nodes (in_form form t) ≡ map form (nodes t)
  nodes_in_form form (branch n ks) = ap (λ ns. ns ++ form n ∷ []) (nodes_renamed form ks) ∙ sym (map-append form (nodes_each ks) (n ∷ []))

  nodes_renamed : {N F : Type 0} (form : N → F) (ks : Trees N) → nodes_each (trees_of (fold_each (renamed form) ks)) ≡ map form (nodes_each ks)
  nodes_renamed form no_trees = refl
  nodes_renamed form (tree_and t ks) = ap₂ (λ x y. x ++ y) (nodes_in_form form t) (nodes_renamed form ks) ∙ sym (map-append form (nodes t) (nodes_each ks))
