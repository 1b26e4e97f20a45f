-- The tree of a formula: that there is one, and what is known of its features.
use Rattle.std.proofs.Common.{◌≡◌, ℕ, ◌<◌, Bool, false, List, length, get_or, Contains, Some, ap, sym, ◌∙◌, subst}
use Rattle.std.specs.Option.{option_map}
use Rattle.std.proofs.lemmas.Option.{slice_get-get_or}
use Rattle.arena_walk.specs.Tree.{Tree, root_of, nodes, EachNode}
use Rattle.arena_walk.specs.Forest.{tree_at}
use Rattle.arena_walk.proofs.Visitors.{each_of_nodes, tree_at_node, in_arena}
use Rattle.dj_formula.specs.declared.formula.Gate.{Gate}
use Rattle.dj_formula.specs.declared.formula.Gate.TheVariants.{Constant, Feature}
use Rattle.dj_formula.specs.Gates.{operands, IsBelow}
use Rattle.dj_formula.specs.Value.{value_of, HasFeaturesBelow}

-- a root that is in the arena has a tree
pub tree_there : (ns : List Gate) (root : ℕ) → root < length ns → (t : Tree Gate) × (tree_at operands ns root ≡ Some t)
tree_there ns root there = (_, tree_at_node operands ns root (get_or ns root (Constant false)) (slice_get-get_or ns root (Constant false) there))

-- the value of that tree is the formula's
pub has_value : (chosen : List Bool) (ns : List Gate) (root : ℕ) (value : Bool) → root < length ns → ((t : Tree Gate) → tree_at operands ns root ≡ Some t → value ≡ value_of chosen t) → option_map (value_of chosen) (tree_at operands ns root) ≡ Some value
has_value chosen ns root value there all =
    let tree = tree_there ns root there in
    ap (option_map (value_of chosen)) tree.1 ∙ ap Some (sym (all tree.0 tree.1))

-- each gate of a tree, by the features of the tree
pub each_below : (n first : ℕ) (t : Tree Gate) → HasFeaturesBelow n t → EachNode (λ u _. IsBelow n (root_of u)) first t
each_below n first t below =
    each_of_nodes (IsBelow n) first t (λ gate has feature is. let P : Gate → Type 0 = λ g. Contains (nodes t) g in below feature (subst P is has))

-- the features of a tree, by those of the whole arena
pub features_below : (n : ℕ) (ns : List Gate) (root : ℕ) (t : Tree Gate) → ((feature : ℕ) → Contains ns (Feature feature) → feature < n) → tree_at operands ns root ≡ Some t → HasFeaturesBelow n t
features_below n ns root t all is = λ feature has. all feature (in_arena operands ns root t (Feature feature) is has)
