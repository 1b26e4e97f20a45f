-- The gates that were pushed make the tree of the formula.
use Rattle.std.proofs.Common.{◌≡◌, ℕ, ◌+◌, ◌-◌, ◌<◌, ◌≤◌, Bool, List, [], ◌∷◌, ◌++◌, length, map, take, drop, Some, All, slice_get, unwrap_or, get_or, refl, sym, ap, ◌∙◌, subst, arith}
use Rattle.std.specs.Prelude.{⊤}
use Rattle.std.specs.Option.{option_map}
use Rattle.std.proofs.lemmas.List.{drop_all, take_more, drop-append-le, length-take, map-append}
use Rattle.std.proofs.lemmas.Option.{slice_get-get_or, slice_get_within, get_or_from_slice_get}
use Rattle.arena_walk.specs.Tree.{Tree, over, nodes as nodes_of, EachNode}
use Rattle.arena_walk.specs.Forest.{tree_at, first_number, HasArity, grow, last_trees}
use Rattle.arena_walk.proofs.Visitors.{outs_fold, nodes_to, tree_at_node, each_node, IsAlong, along_start, along_enough, along_next, along_end, along_at, along_with, next_node}
use Rattle.dj_names.specs.Texts.{Text, AreDistinct}
use Rattle.dj_tree.specs.Arities.{formula_arity}
use Rattle.dj_tree.specs.Trees as plain
use Rattle.dj_tree.specs.Plain.{in_form, formula_form, plain_formula, plain_spot}
use Rattle.dj_tree.specs.WellFormed.{IsFormulaNode, IsKnown}
use Rattle.dj_tree.specs.declared.declarations.Spot.{Spot}
use Rattle.dj_tree.specs.declared.formula.FormulaNode.{FormulaNode}
use Rattle.dj_tree.specs.declared.formula.FormulaNode.TheVariants as node
use Rattle.dj_formula.specs.declared.formula.Gate.{Gate}
use Rattle.dj_formula.specs.declared.formula.Gate.TheVariants.{Constant, Feature}
use Rattle.dj_formula.specs.Gates.{operands}
use Rattle.dj_formula.specs.declared.formula.Formula.{Formula}
use Rattle.dj_formula.specs.Value.{tree_of, value_of}
use Rattle.dj_conditions.specs.Conditions.{gate_of, gates_of, StandsFor}
use Rattle.dj_conditions.specs.NodeGates.{node_gate}
use Rattle.dj_tree.proofs.InForm.{nodes_in_form}
use Rattle.dj_conditions.proofs.Names.{number_of}
use Rattle.dj_conditions.proofs.Values.{fold_in_form, same_value}

-- the gate of a node
abbrev pub plain_gate : List plain.Spot → List Text → FormulaNode → Gate
plain_gate features names n = gate_of features (formula_form names n)

pub same_operands : (features : List plain.Spot) (names : List Text) (n : FormulaNode) → operands (plain_gate features names n) ≡ formula_arity n
same_operands features names node.True = refl
same_operands features names node.False = refl
same_operands features names (node.Feature x) = refl
same_operands features names node.Not = refl
same_operands features names node.And = refl
same_operands features names node.Or = refl
same_operands features names node.Implies = refl
same_operands features names node.Same = refl

-- the code's gate of a node that is well formed
pub same_gate : (names : List Text) → AreDistinct names → (features : List Spot) → All (IsKnown names) features → (keys : List ℕ) → keys ≡ map (λ f. f.name.0) features
    → (n : FormulaNode) → IsFormulaNode names n → node_gate keys n ≡ plain_gate (map (plain_spot names) features) names n
same_gate names distinct features known keys are node.True h = refl
same_gate names distinct features known keys are node.False h = refl
same_gate names distinct features known keys are (node.Feature x) h = ap (λ ks. node_gate ks (node.Feature x)) are ∙ ap Feature (number_of names distinct features known x h)
same_gate names distinct features known keys are node.Not h = refl
same_gate names distinct features known keys are node.And h = refl
same_gate names distinct features known keys are node.Or h = refl
same_gate names distinct features known keys are node.Implies h = refl
same_gate names distinct features known keys are node.Same h = refl

-- the gates of a plain formula, in one step
pub gates_in_form : (features : List plain.Spot) (names : List Text) (t : Tree FormulaNode) → gates_of features (in_form (formula_form names) t) ≡ in_form (plain_gate features names) t
gates_in_form features names t = fold_in_form (formula_form names) (λ form parts. over (gate_of features form) parts) t

-- the plain formula, from the tree of its root
pub formula_there : (names : List Text) (formulas : List FormulaNode) (root : ℕ) (t : Tree FormulaNode) → tree_at formula_arity formulas root ≡ Some t → plain_formula names formulas root ≡ in_form (formula_form names) t
formula_there names formulas root t is = ap (λ o. unwrap_or (option_map (in_form (formula_form names)) o) plain.always) is

one_last : {X : Type 0} (xs : List X) (x y : X) → xs ++ x ∷ [] ≡ y ∷ [] → x ≡ y
one_last [] x y e = cc
one_last (z ∷ []) x y e = absurd (cc)
one_last (z ∷ w ∷ xs) x y e = absurd (cc)

abbrev IsGates : (FormulaNode → Gate) → Tree FormulaNode → Tree Gate → Type 0
IsGates gate u out = out ≡ in_form gate u

abbrev Any : Tree FormulaNode → ℕ → Type 0
Any u at = ⊤

-- these trees of gates stand before the node `at` of the tree t at `root`
abbrev pub PushedBefore : (FormulaNode → Gate) → List FormulaNode → ℕ → Tree FormulaNode → ℕ → List (Tree Gate) → Type 0
PushedBefore gate ns root t at ts = IsAlong formula_arity (IsGates gate) Any t at (drop at (take (root + 1) ns)) ts

module _ (gate : FormulaNode → Gate) (ns : List FormulaNode) (root : ℕ) (t : Tree FormulaNode) where
  pub pushed_first : (at : ℕ) (ts : List (Tree Gate)) → at ≡ first_number root t → ts ≡ [] → tree_at formula_arity ns root ≡ Some t → EachNode (λ u _. HasArity formula_arity u) (first_number root t) t
      → PushedBefore gate ns root t at ts
  pushed_first at ts first none is whole =
      subst (λ (k : ℕ). PushedBefore gate ns root t k ts) (sym first)
      (along_with formula_arity (IsGates gate) Any t (first_number root t) _ [] ts (sym none)
      (along_start formula_arity (IsGates gate) Any t (first_number root t) _ whole (each_node Any (λ u k. tt) (first_number root t) t) (nodes_to formula_arity ns root t is)))

  pub pushed_at : (at at_end : ℕ) (ts : List (Tree Gate)) → at ≡ at_end → PushedBefore gate ns root t at ts → PushedBefore gate ns root t at_end ts
  pushed_at at at_end ts same pushed = subst (λ (k : ℕ). PushedBefore gate ns root t k ts) same pushed

  module _ (at : ℕ) (n : FormulaNode) (here : slice_get ns at ≡ Some n) (before : at < root + 1) where
    at_node : (ts : List (Tree Gate)) → PushedBefore gate ns root t at ts → IsAlong formula_arity (IsGates gate) Any t at (n ∷ drop (at + 1) (take (root + 1) ns)) ts
    at_node ts pushed = along_at formula_arity (IsGates gate) Any t at _ _ ts (next_node ns (root + 1) at n here before) pushed

    pub pushed_enough : (ts : List (Tree Gate)) → PushedBefore gate ns root t at ts → formula_arity n ≤ length ts
    pushed_enough ts pushed = along_enough formula_arity (IsGates gate) Any t at n _ ts (at_node ts pushed)

    next : (ts : List (Tree Gate)) → PushedBefore gate ns root t at ts
        → PushedBefore gate ns root t (at + 1) (take (length ts - formula_arity n) ts ++ over (gate n) (drop (length ts - formula_arity n) ts) ∷ [])
    next ts pushed =
        along_next formula_arity (IsGates gate) (IsGates gate) Any t at n _ ts (over (gate n) (drop (length ts - formula_arity n) ts)) (at_node ts pushed) (λ u out is. is)
        (λ kids stand _. outs_fold (λ m parts. over (gate m) parts) n kids (drop (length ts - formula_arity n) ts) stand)

    pub pushed_next : (g : Gate) (ts after : List (Tree Gate)) → g ≡ gate n → operands (gate n) ≡ formula_arity n → after ≡ grow operands ts g → PushedBefore gate ns root t at ts
        → PushedBefore gate ns root t (at + 1) after
    unfolding grow last_trees
    pushed_next g ts after is count grown pushed =
        along_with formula_arity (IsGates gate) Any t (at + 1) _ _ after
        (sym (grown ∙ ap (grow operands ts) is ∙ ap (λ k. take (length ts - k) ts ++ over (gate n) (drop (length ts - k) ts) ∷ []) count)) (next ts pushed)

  -- the last gate stands over the whole tree
  pub pushed_last : (n : FormulaNode) (g : Gate) (ts : List (Tree Gate)) → slice_get ns root ≡ Some n → g ≡ gate n → operands (gate n) ≡ formula_arity n → length (take (root + 1) ns) ≤ root + 1
      → PushedBefore gate ns root t root ts → over g (last_trees operands ts g) ≡ in_form gate t
  unfolding last_trees
  pushed_last n g ts here is count past pushed =
      let end = along_end formula_arity (IsGates gate) Any t (root + 1) _ _ (drop_all (root + 1) (take (root + 1) ns) past) (next root n here (omega arith) ts pushed) in
      ap (λ h. over h (drop (length ts - operands h) ts)) is ∙ ap (λ k. over (gate n) (drop (length ts - k) ts)) count
      ∙ one_last (take (length ts - formula_arity n) ts) _ end.0 end.1 ∙ end.2

-- the gates that were pushed are those of the nodes from the first of the tree on
module _ (gate : FormulaNode → Gate) (ns : List FormulaNode) (first : ℕ) where
  pub made_first : (at : ℕ) (made : List Gate) → made ≡ [] → at ≡ first → made ≡ map gate (drop first (take at ns))
  made_first at made none same =
      none ∙ ap (map gate) (sym (drop_all first (take at ns) (omega (arith, length-take at ns))))

  pub made_next : (at : ℕ) (n : FormulaNode) (g : Gate) (made after : List Gate) → slice_get ns at ≡ Some n → first ≤ at → g ≡ gate n → after ≡ made ++ g ∷ []
      → made ≡ map gate (drop first (take at ns)) → after ≡ map gate (drop first (take (at + 1) ns))
  made_next at n g made after here low is grown so =
      let inside = slice_get_within ns at n here in
      let more : take (at + 1) ns ≡ take at ns ++ n ∷ [] = take_more ns at n inside ∙ ap (λ y. take at ns ++ y ∷ []) (get_or_from_slice_get ns at n n here) in
      let behind : drop first (take at ns ++ n ∷ []) ≡ drop first (take at ns) ++ n ∷ [] = drop-append-le first (take at ns) (n ∷ []) (omega (arith, length-take at ns)) in
      grown ∙ ap (λ ms. ms ++ g ∷ []) so ∙ ap (λ h. map gate (drop first (take at ns)) ++ h ∷ []) is
      ∙ sym (map-append gate (drop first (take at ns)) (n ∷ [])) ∙ ap (map gate) (sym (ap (drop first) more ∙ behind))

-- the formula of the code, and what it stands for
pub stands_for : (names : List Text) (formulas : List FormulaNode) (source : plain.Source) (formula : Formula) (root : ℕ) (t : Tree FormulaNode) → formula.root.0 < length formula.nodes
    → tree_at formula_arity formulas root ≡ Some t → EachNode (λ u _. HasArity formula_arity u) (first_number root t) t → tree_of formula ≡ Some (in_form (plain_gate source.features names) t)
    → formula.nodes ≡ map (plain_gate source.features names) (nodes_of t) → StandsFor source formula (plain_formula names formulas root)
stands_for names formulas source formula root t there is full tree made =
    let meant = formula_there names formulas root t is in
    let gates : tree_of formula ≡ Some (gates_of source.features (in_form (formula_form names) t)) = tree ∙ ap Some (sym (gates_in_form source.features names t)) in
    let P : plain.Formula → Type 0 = StandsFor source formula in
    subst P (sym meant) (record {
      there = there;
      tree = gates;
      nodes = made ∙ sym (nodes_in_form (plain_gate source.features names) t) ∙ ap nodes_of (sym (gates_in_form source.features names t));
      value = λ c. ap (option_map (value_of c)) gates ∙ ap Some (same_value names source c (first_number root t) t full);
    })

-- a root that is in the arena has a tree
pub tree_there : (ns : List FormulaNode) (root : ℕ) → root < length ns → (t : Tree FormulaNode) × (tree_at formula_arity ns root ≡ Some t)
tree_there ns root there = (_, tree_at_node formula_arity ns root (get_or ns root node.True) (slice_get-get_or ns root node.True there))

-- a constant takes no trees
pub no_operands : (ts : List (Tree Gate)) (b : Bool) → ts ≡ [] → last_trees operands ts (Constant b) ≡ []
unfolding last_trees
no_operands ts b none = ap (λ us. drop (length us - operands (Constant b)) us) none
