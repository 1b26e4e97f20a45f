-- Values that agree with the entries of a tree give its literal the tree's value.
use Rattle.std.proofs.Common.{◌≡◌, ℕ, zero, suc, ◌+◌, ◌<◌, Bool, true, false, not, ◌&&◌, ◌||◌, List, [], ◌∷◌, length, map, slice_index_or, Contains, refl, sym, ap, ◌∙◌, arith}
use Rattle.std.specs.Bool.{beq}
use Rattle.std.proofs.lemmas.Bool.{true≢false, and_parts}
use Rattle.std.proofs.lemmas.List.Elements.{Contains-append_left, Contains-append_right}
use Rattle.std.proofs.lemmas.List.Folds.{list_all-append}
use Rattle.arena_walk.specs.Tree.{Tree, Trees, branch, no_trees, tree_and, list_of, size, size_each, nodes, nodes_each, EachNode, EachNodeOf, fold_each}
use Rattle.arena_walk.specs.Forest.{HasArity}
use Rattle.dj_formula.specs.declared.formula.Gate.{Gate}
use Rattle.dj_formula.specs.declared.formula.Gate.TheVariants.{Constant, Feature, Not, And, Or, Implies, Same}
use Rattle.dj_formula.specs.Gates.{operands, IsBelow}
use Rattle.dj_formula.specs.Value.{gate_value, value_of as value_of_tree, HasFeaturesBelow}
use Rattle.gate_encoder.specs.Entries.{Literal, negated, agrees, agree, value_of}
use Rattle.gate_encoder.specs.Formulas.{Names, node_entries, node_literal, own_literal, tree_literal, trees_literals, tree_entries, trees_entries}

same_true : (a b : Bool) → (beq a b && true) ≡ true → beq a true ≡ b
same_true true true e = refl
same_true true false e = absurd (true≢false (sym e))
same_true false true e = absurd (true≢false (sym e))
same_true false false e = refl

module _ {K : Type 0} (v : K → Bool) where
  negated_value : (l : Literal K) → value_of v (negated l) ≡ not (value_of v l)
  negated_value l = by (v l.key) l.positive
    where
      by : (a b : Bool) → beq a (not b) ≡ not (beq a b)
      by true true = refl
      by true false = refl
      by false true = refl
      by false false = refl

  feature_value : (ls : List (Literal K)) (f : ℕ) (truth : Literal K) → f < length ls → value_of v (slice_index_or ls f truth) ≡ slice_index_or (map (value_of v) ls) f false
  feature_value [] f truth within = absurd (omega arith)
  feature_value (l ∷ ls) zero truth within = refl
  feature_value (l ∷ ls) (suc f) truth within = feature_value ls f truth (omega arith)

  with_true : (b : Bool) → (b && true) ≡ b
  with_true true = refl
  with_true false = refl

  with_false : (b : Bool) → (b || false) ≡ b
  with_false true = refl
  with_false false = refl

  -- a node's literal has the node's value
  node_value : (k : K) (truth : Literal K) (features : List (Literal K)) (gate : Gate) (ls : List (Literal K)) → value_of v truth ≡ true → IsBelow (length features) gate → length ls ≡ operands gate
      → agree v (node_entries negated k gate ls) ≡ true → value_of v (node_literal negated truth features (own_literal k) gate ls) ≡ gate_value (map (value_of v) features) gate (map (value_of v) ls)
  node_value k truth features (Constant true) ls t below count all = t
  node_value k truth features (Constant false) ls t below count all = negated_value truth ∙ ap not t
  node_value k truth features (Feature f) ls t below count all = feature_value features f truth (below f refl)
  node_value k truth features Not [] t below count all = absurd (omega arith)
  node_value k truth features Not (a ∷ []) t below count all = negated_value a
  node_value k truth features Not (a ∷ b ∷ ls) t below count all = absurd (omega arith)
  node_value k truth features And [] t below count all = absurd (omega arith)
  node_value k truth features And (a ∷ []) t below count all = absurd (omega arith)
  node_value k truth features And (a ∷ b ∷ []) t below count all = same_true (v k) (value_of v a && (value_of v b && true)) all ∙ ap (λ c. value_of v a && c) (with_true (value_of v b))
  node_value k truth features And (a ∷ b ∷ c ∷ ls) t below count all = absurd (omega arith)
  node_value k truth features Or [] t below count all = absurd (omega arith)
  node_value k truth features Or (a ∷ []) t below count all = absurd (omega arith)
  node_value k truth features Or (a ∷ b ∷ []) t below count all = same_true (v k) (value_of v a || (value_of v b || false)) all ∙ ap (λ c. value_of v a || c) (with_false (value_of v b))
  node_value k truth features Or (a ∷ b ∷ c ∷ ls) t below count all = absurd (omega arith)
  node_value k truth features Implies [] t below count all = absurd (omega arith)
  node_value k truth features Implies (a ∷ []) t below count all = absurd (omega arith)
  node_value k truth features Implies (a ∷ b ∷ []) t below count all =
      same_true (v k) (value_of v (negated a) || (value_of v b || false)) all ∙ ap (λ c. value_of v (negated a) || c) (with_false (value_of v b)) ∙ ap (λ c. c || value_of v b) (negated_value a)
  node_value k truth features Implies (a ∷ b ∷ c ∷ ls) t below count all = absurd (omega arith)
  node_value k truth features Same [] t below count all = absurd (omega arith)
  node_value k truth features Same (a ∷ []) t below count all = absurd (omega arith)
  node_value k truth features Same (a ∷ b ∷ []) t below count all = same_true (v k) (beq (value_of v a) (value_of v b)) all
  node_value k truth features Same (a ∷ b ∷ c ∷ ls) t below count all = absurd (omega arith)

  module _ (names : Names K) (truth : value_of v names.truth ≡ true) where
    length-literals : (first : ℕ) (ks : Trees Gate) → length (trees_literals names first ks) ≡ length (list_of ks)
    length-literals first no_trees = refl
    length-literals first (tree_and t ks) = ap suc (length-literals (first + size t) ks)

    mutual
      pub tree_value : (first : ℕ) (t : Tree Gate) → EachNode (λ u _. HasArity operands u) first t → HasFeaturesBelow (length names.features) t → agree v (tree_entries names first t) ≡ true
          → value_of v (tree_literal names first t) ≡ value_of_tree (map (value_of v) names.features) t
      tree_value first (branch gate ks) whole below all =
          let own = names.node (first + size_each ks) in
          let lits = trees_literals names first ks in
          let parts = and_parts (agree v (trees_entries names first ks)) (agree v (node_entries negated own gate lits))
          (sym (list_all-append (agrees v (value_of v)) (trees_entries names first ks) (node_entries negated own gate lits)) ∙ all) in
          let is_below : IsBelow (length names.features) gate =
          λ f is. below f (Contains-append_right (nodes_each ks) (gate ∷ []) (Feature f) (0, omega arith, is)) in
          node_value own names.truth names.features gate lits truth is_below (length-literals first ks ∙ whole.1) parts.1
          ∙ ap (gate_value (map (value_of v) names.features) gate) (trees_value first ks whole.0 (λ f has. below f (Contains-append_left (nodes_each ks) (gate ∷ []) (Feature f) has)) parts.0)

      trees_value : (first : ℕ) (ks : Trees Gate) → EachNodeOf (λ u _. HasArity operands u) first ks → ((f : ℕ) → Contains (nodes_each ks) (Feature f) → f < length names.features) → agree v (trees_entries names first ks) ≡ true
          → map (value_of v) (trees_literals names first ks) ≡ fold_each (gate_value (map (value_of v) names.features)) ks
      trees_value first no_trees whole below all = refl
      trees_value first (tree_and t ks) whole below all =
          let parts = and_parts (agree v (tree_entries names first t)) (agree v (trees_entries names (first + size t) ks))
          (sym (list_all-append (agrees v (value_of v)) (tree_entries names first t) (trees_entries names (first + size t) ks)) ∙ all) in
          ap (λ b. b ∷ map (value_of v) (trees_literals names (first + size t) ks)) (tree_value first t whole.0 (λ f has. below f (Contains-append_left (nodes t) (nodes_each ks) (Feature f) has)) parts.0)
          ∙ ap (λ bs. value_of_tree (map (value_of v) names.features) t ∷ bs)
          (trees_value (first + size t) ks whole.1 (λ f has. below f (Contains-append_right (nodes t) (nodes_each ks) (Feature f) has)) parts.1)
