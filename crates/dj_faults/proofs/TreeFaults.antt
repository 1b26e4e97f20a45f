-- Faults in formulas and in bodies, by the nodes of the code.
use Rattle.std.proofs.Common.{◌≡◌, ℕ, ◌<◌, Bool, false, List, length, map, Contains, Option, Some, unwrap_or, refl, sym, ap, ◌∙◌, subst}
use Rattle.std.specs.List.{filter_map}
use Rattle.std.specs.Option.{option_map}
use Rattle.std.proofs.lemmas.List.Elements.{All-contains}
use Rattle.arena_walk.specs.Tree.{Tree, nodes}
use Rattle.arena_walk.specs.Forest.{tree_at}
use Rattle.arena_walk.proofs.Visitors.{tree_at_node, in_arena}
use Rattle.dj_calculus.proofs.Members.{filtered_from, kept_by, mapped_within, mapped_from}
use Rattle.dj_names.specs.Texts.{Text}
use Rattle.dj_tree.specs.Trees as plain
use Rattle.dj_tree.specs.Trees.{OriginalForm}
use Rattle.dj_tree.specs.Arities.{formula_arity, expr_arity}
use Rattle.dj_tree.specs.Plain.{plain_spot, plain_formula, plain_expr, in_form, formula_form, expr_form}
use Rattle.dj_tree.specs.WellFormed.{IsFormulaNode}
use Rattle.dj_tree.specs.declared.declarations.Spot.{Spot}
use Rattle.dj_tree.specs.declared.formula.FormulaNode.{FormulaNode}
use Rattle.dj_tree.specs.declared.formula.FormulaNode.TheVariants.{True, False, Feature, Not, And, Or, Implies, Same}
use Rattle.dj_tree.specs.declared.expression.ExprNode.{ExprNode}
use Rattle.dj_tree.specs.declared.expression.ExprNode.TheVariants.{Variable, This, Null, Field, Call, New, Cast, Assign, Original}
use Rattle.dj_tree.specs.declared.source.Source.{Source}
use Rattle.dj_tree.proofs.InForm.{nodes_in_form}
use Rattle.dj_calculus.specs.Formulas.{name_in}
use Rattle.dj_calculus.specs.Configurations.{is_named}
use Rattle.dj_calculus.proofs.Counting.{there_is}
use Rattle.dj_faults.specs.LeastPlace.{IsLeastPlace, Among}
use Rattle.dj_faults.specs.Numbers.{IsSound, is_met}
use Rattle.dj_faults.specs.Inside.{UnknownIn, OriginalIn, UnknownName}
use Rattle.dj_faults.proofs.LeastLemmas.{least_same}
use Rattle.dj_faults.proofs.NameLemmas.{met_is_named}
use Rattle.dj_faults.proofs.ListFaults.{known_features}

root_tree : {N : Type 0} (arity : N → ℕ) (ns : List N) (root : ℕ) → root < length ns → (t : Tree N) × (tree_at arity ns root ≡ Some t)
root_tree arity ns root low = let n = there_is ns root low in (_, tree_at_node arity ns root n.0 n.1)

-- ---- bodies

original_form : (names : List Text) (n : ExprNode) (at : ℕ) → OriginalIn n at → expr_form names n ≡ OriginalForm at
original_form names (Original place arguments) at is = ap OriginalForm is
original_form names (Variable x) at is = absurd is
original_form names (This place) at is = absurd is
original_form names (Null place) at is = absurd is
original_form names (Field x) at is = absurd is
original_form names (Call x arguments) at is = absurd is
original_form names (New x) at is = absurd is
original_form names (Cast x) at is = absurd is
original_form names (Assign x) at is = absurd is

formed_original : (names : List Text) (n : ExprNode) (at : ℕ) → expr_form names n ≡ OriginalForm at → OriginalIn n at
formed_original names (Original place arguments) at e = cc
formed_original names (Variable x) at e = absurd cc
formed_original names (This place) at e = absurd cc
formed_original names (Null place) at e = absurd cc
formed_original names (Field x) at e = absurd cc
formed_original names (Call x arguments) at e = absurd cc
formed_original names (New x) at e = absurd cc
formed_original names (Cast x) at e = absurd cc
formed_original names (Assign x) at e = absurd cc

pub least_original : (names : List Text) (exprs : List ExprNode) (root : ℕ) (o : Option ℕ) → root < length exprs
    → ((t : Tree ExprNode) → tree_at expr_arity exprs root ≡ Some t → IsLeastPlace (Among OriginalIn (nodes t)) o) → IsLeastPlace (λ at. Contains (nodes (plain_expr names exprs root)) (OriginalForm at)) o
least_original names exprs root o low each =
    let tree = root_tree expr_arity exprs root low in
    let formed : nodes (plain_expr names exprs root) ≡ map (expr_form names) (nodes tree.0) =
    ap (λ t. nodes (unwrap_or (option_map (in_form (expr_form names)) t) (plain.null_at 0))) tree.1 ∙ nodes_in_form (expr_form names) tree.0 in
    subst (λ ns. IsLeastPlace (λ at. Contains ns (OriginalForm at)) o) (sym formed)
    (least_same o
    (λ at h. subst (Contains (map (expr_form names) (nodes tree.0))) (original_form names h.0 at h.2) (mapped_within (expr_form names) (nodes tree.0) h.0 h.1))
    (λ at h. let n = mapped_from (expr_form names) (nodes tree.0) (OriginalForm at) h in (n.0, n.1, formed_original names n.0 at n.2)) (each tree.0 tree.1))

-- ---- formulas

is_feature : (names : List Text) (n : FormulaNode) (x : plain.Spot) → name_in (formula_form names n) ≡ Some x → (y : Spot) × (n ≡ Feature y) × (plain_spot names y ≡ x)
is_feature names (Feature y) x e = (y, refl, cc)
is_feature names True x e = absurd cc
is_feature names False x e = absurd cc
is_feature names Not x e = absurd cc
is_feature names And x e = absurd cc
is_feature names Or x e = absurd cc
is_feature names Implies x e = absurd cc
is_feature names Same x e = absurd cc

unknown_is : (known : ℕ → Bool) (n : FormulaNode) (at : ℕ) → UnknownIn known n at → (y : Spot) × (n ≡ Feature y) × ((known y.name.0 ≡ false) × (y.at ≡ at))
unknown_is known (Feature y) at is = (y, refl, is)
unknown_is known True at is = absurd is
unknown_is known False at is = absurd is
unknown_is known Not at is = absurd is
unknown_is known And at is = absurd is
unknown_is known Or at is = absurd is
unknown_is known Implies at is = absurd is
unknown_is known Same at is = absurd is

module _ (s : Source) (sound : IsSound s) (known : ℕ → Bool) (test : (n : ℕ) → known n ≡ is_met s.features n) where
  tested : (root : ℕ) (t : Tree FormulaNode) (n : FormulaNode) (y : Spot) → tree_at formula_arity s.formulas root ≡ Some t → Contains (nodes t) n → n ≡ Feature y
      → known y.name.0 ≡ is_named (map (plain_spot s.names) s.features) (plain_spot s.names y).text
  tested root t n y e there is =
      let node = All-contains (IsFormulaNode s.names) s.formulas n sound.formed.formula_nodes (in_arena formula_arity s.formulas root t n e there) in
      test y.name.0 ∙ met_is_named s.names sound.distinct s.features y.name.0 (known_features s sound) (subst (IsFormulaNode s.names) is node)

  pub least_unknown_name : (root : ℕ) (o : Option ℕ) → root < length s.formulas
      → ((t : Tree FormulaNode) → tree_at formula_arity s.formulas root ≡ Some t → IsLeastPlace (Among (UnknownIn known) (nodes t)) o)
      → IsLeastPlace (UnknownName (map (plain_spot s.names) s.features) (plain_formula s.names s.formulas root)) o
  least_unknown_name root o low each =
      let tree = root_tree formula_arity s.formulas root low in
      let form = formula_form s.names in
      let formed : nodes (plain_formula s.names s.formulas root) ≡ map (formula_form s.names) (nodes tree.0) =
      ap (λ t. nodes (unwrap_or (option_map (in_form (formula_form s.names)) t) plain.always)) tree.1 ∙ nodes_in_form (formula_form s.names) tree.0 in
      subst (λ ns. IsLeastPlace (λ at. (x : plain.Spot) × Contains (filter_map name_in ns) x × ((is_named (map (plain_spot s.names) s.features) x.text ≡ false) × (x.at ≡ at))) o) (sym formed)
      (least_same o (to tree.0 tree.1) (from tree.0 tree.1) (each tree.0 tree.1))
    where
      to : (t : Tree FormulaNode) → tree_at formula_arity s.formulas root ≡ Some t → (at : ℕ) → Among (UnknownIn known) (nodes t) at
          → (x : plain.Spot) × Contains (filter_map name_in (map (formula_form s.names) (nodes t))) x × ((is_named (map (plain_spot s.names) s.features) x.text ≡ false) × (x.at ≡ at))
      to t e at h =
          let y = unknown_is known h.0 at h.2 in (
            plain_spot s.names y.0,
            kept_by name_in (map (formula_form s.names) (nodes t)) (formula_form s.names h.0) (plain_spot s.names y.0) (mapped_within (formula_form s.names) (nodes t) h.0 h.1) (ap (λ n. name_in (formula_form s.names n)) y.1),
            (sym (tested root t h.0 y.0 e h.1 y.1) ∙ y.2.0, y.2.1),
          )

      from : (t : Tree FormulaNode) → tree_at formula_arity s.formulas root ≡ Some t → (at : ℕ)
          → (x : plain.Spot) × Contains (filter_map name_in (map (formula_form s.names) (nodes t))) x × ((is_named (map (plain_spot s.names) s.features) x.text ≡ false) × (x.at ≡ at)) → Among (UnknownIn known) (nodes t) at
      from t e at h =
          let f = filtered_from name_in (map (formula_form s.names) (nodes t)) h.0 h.1 in
          let n = mapped_from (formula_form s.names) (nodes t) f.0 f.1 in
          let y = is_feature s.names n.0 h.0 (ap name_in n.2 ∙ f.2) in (
            n.0,
            n.1,
            subst (λ m. UnknownIn known m at) (sym y.1)
                (tested root t n.0 y.0 e n.1 y.1 ∙ ap (λ (x : plain.Spot). is_named (map (plain_spot s.names) s.features) x.text) y.2 ∙ h.2.0, ap (λ (x : plain.Spot). x.at) y.2 ∙ h.2.1),
          )
