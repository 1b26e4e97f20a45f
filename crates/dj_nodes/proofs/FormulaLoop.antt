-- The loop that puts a formula into an arena.
use Rattle.std.proofs.Common.{◌≡◌, ℕ, ◌+◌, ◌<◌, ◌≤◌, List, [], ◌∷◌, ◌++◌, length, map, take, get_or, slice_get, Some, refl, sym, ap, ◌∙◌, length-append, arith}
use Rattle.std.specs.Prelude.{unwrap_or}
use Rattle.std.specs.Option.{option_map}
use Rattle.std.proofs.lemmas.List.{length-map}
use Rattle.std.proofs.lemmas.Option.{slice_get-map}
use Rattle.dj_names.specs.Texts.{Text, Extends}
use Rattle.arena_walk.specs.Tree.{nodes}
use Rattle.arena_walk.specs.Forest.{trees}
use Rattle.dj_tree.specs.Trees.{always}
use Rattle.dj_tree.specs.Arities.{formula_arity as node_arity}
use Rattle.dj_tree.specs.Plain.{formula_form, plain_formula, in_form}
use Rattle.dj_tree.specs.WellFormed.{IsFormulaNode}
use Rattle.dj_tree.specs.declared.formula.FormulaNode.{FormulaNode}
use Rattle.dj_tree.specs.declared.formula.FormulaNode.TheVariants as node
use Rattle.dj_formula_reader.specs.declared.machine.FormulaMark.{FormulaMark}
use Rattle.dj_formula_reader.specs.Laws.{parts, formula_of}
use Rattle.dj_formula_reader.specs.View.{form_of, forms_of}
use Rattle.dj_tree.specs.PostOrder.{finished, IsPostOrder}
use Rattle.dj_nodes.specs.PostOrder.{IsFormulaOrder}
use Rattle.dj_nodes.specs.Texts.{FormulaFormText, FormulaTexts}
use Rattle.dj_nodes.proofs.Forms.{formula_arities, formula_nodes, formula_in_form}
use Rattle.dj_tree.proofs.Growing.{at_number, kept_formula_form, formula_node_later}
use Rattle.dj_tree.proofs.Filling.{Filled, filled_next, filled_enough, filled_all, all_nodes}

-- some marks are done
abbrev pub FormulaFilled : List ℕ → List FormulaMark → List Text → List Text → List FormulaNode → List FormulaNode → ℕ → Type 0
FormulaFilled bytes done names later old new root = Filled formula_form IsFormulaNode (form_of bytes) done names later old new root

weighs : (names : List Text) (n : FormulaNode) → parts (formula_form names n) ≡ node_arity n
weighs names node.True = refl
weighs names node.False = refl
weighs names (node.Feature x) = refl
weighs names node.Not = refl
weighs names node.And = refl
weighs names node.Or = refl
weighs names node.Implies = refl
weighs names node.Same = refl

order_is : (bytes : List ℕ) (marks : List FormulaMark) → IsFormulaOrder marks → IsPostOrder (map parts (forms_of bytes marks))
order_is bytes marks order = ap (finished 0) (sym (formula_arities bytes marks)) ∙ order

pub formula_next : (bytes : List ℕ) (marks : List FormulaMark) (i : ℕ) (d : FormulaMark) (names between later : List Text) (old new newer : List FormulaNode) (before root : ℕ) → i < length marks
    → FormulaFilled bytes (take i marks) names between old new before → Extends between later → length later ≤ length between + 1 → root ≡ length new
    → (n : FormulaNode) × (newer ≡ new ++ n ∷ []) × (formula_form later n ≡ form_of bytes (get_or marks i d)) × (node_arity n ≡ parts (form_of bytes (get_or marks i d))) × IsFormulaNode later n
    → FormulaFilled bytes (take (i + 1) marks) names later old newer root
formula_next bytes marks i d names between later old new newer before root inside f e few at n =
    filled_next node_arity formula_form IsFormulaNode (form_of bytes) parts weighs kept_formula_form formula_node_later marks i d names between later old new newer before root n.0 inside f e few n.1 at n.2 n.4

pub formula_enough : (bytes : List ℕ) (marks : List FormulaMark) (i : ℕ) (m : FormulaMark) (names later : List Text) (old new : List FormulaNode) (root : ℕ) → IsFormulaOrder marks → slice_get marks i ≡ Some m
    → FormulaFilled bytes (take i marks) names later old new root → parts (form_of bytes m) ≤ length (trees node_arity new)
formula_enough bytes marks i m names later old new root order at f =
    filled_enough node_arity formula_form IsFormulaNode (form_of bytes) parts weighs kept_formula_form formula_node_later marks i m names later old new root (order_is bytes marks order) at f

pub formula_all : (bytes : List ℕ) (marks : List FormulaMark) (names later : List Text) (old new : List FormulaNode) (root : ℕ) → IsFormulaOrder marks → FormulaFilled bytes marks names later old new root
    → (plain_formula later new root ≡ formula_of (forms_of bytes marks)) × (root < length new)
formula_all bytes marks names later old new root order f =
    let t = filled_all node_arity formula_form IsFormulaNode (form_of bytes) parts weighs kept_formula_form formula_node_later marks names later old new root (order_is bytes marks order) f in
    (ap (λ o. unwrap_or (option_map (in_form (formula_form later)) o) always) t.1 ∙ sym (formula_in_form (formula_form later) node_arity t.0 (weighs later) t.3) ∙ ap formula_of t.2, t.4)

-- the text of the name of each mark
pub formula_text : (P : Text → Type 0) (bytes : List ℕ) (marks : List FormulaMark) (i : ℕ) (m : FormulaMark) → IsFormulaOrder marks → FormulaTexts P (formula_of (forms_of bytes marks)) → slice_get marks i ≡ Some m
    → FormulaFormText P (form_of bytes m)
formula_text P bytes marks i m order texts at =
    let all = all_nodes (FormulaFormText P) 0 (formula_of (forms_of bytes marks)) texts in
    let there : slice_get (nodes (formula_of (forms_of bytes marks))) i ≡ Some (form_of bytes m) =
    ap (λ xs. slice_get xs i) (formula_nodes bytes marks order) ∙ slice_get-map (form_of bytes) marks i ∙ ap (option_map (form_of bytes)) at in
    at_number (FormulaFormText P) (nodes (formula_of (forms_of bytes marks))) i (form_of bytes m) all there

-- as many nodes as marks
pub formula_few : (bytes : List ℕ) (done : List FormulaMark) (names later : List Text) (old new : List FormulaNode) (root : ℕ) → FormulaFilled bytes done names later old new root
    → length new ≡ length old + length done
formula_few bytes done names later old new root f =
    omega (arith, ap length f.all, length-append old f.added, length-map f.added (formula_form later), ap length f.same, length-map done (form_of bytes))
