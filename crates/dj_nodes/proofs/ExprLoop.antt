-- The loop that puts an expression into an arena.
use Rattle.std.proofs.Common.{◌≡◌, ℕ, ◌+◌, ◌<◌, ◌≤◌, List, [], ◌∷◌, ◌++◌, length, map, take, get_or, slice_get, Some, refl, sym, ap, ap₂, ◌∙◌, length-append, arith}
use Rattle.std.specs.Prelude.{unwrap_or}
use Rattle.std.specs.Option.{option_map}
use Rattle.std.proofs.lemmas.List.{length-map}
use Rattle.std.proofs.lemmas.Option.{slice_get-map}
use Rattle.dj_names.specs.Texts.{Text, Extends}
use Rattle.arena_walk.specs.Tree.{nodes}
use Rattle.arena_walk.specs.Forest.{trees}
use Rattle.dj_tree.specs.Trees.{null_at}
use Rattle.dj_tree.specs.Arities.{expr_arity as node_arity}
use Rattle.dj_tree.specs.Plain.{expr_form, plain_expr, in_form}
use Rattle.dj_tree.specs.WellFormed.{IsExprNode}
use Rattle.dj_tree.specs.declared.expression.ExprNode.{ExprNode}
use Rattle.dj_expr_reader.specs.declared.machine.ExprMark.{ExprMark}
use Rattle.dj_expr_reader.specs.Marks.{Mark, expr_of}
use Rattle.dj_expr_reader.specs.View.{plain_mark, plain_marks}
use Rattle.dj_tree.specs.PostOrder.{finished, IsPostOrder}
use Rattle.dj_nodes.specs.PostOrder.{IsExprOrder}
use Rattle.dj_nodes.specs.Texts.{ExprFormText, ExprTexts}
use Rattle.dj_nodes.proofs.Forms.{form, width, mark, expr_arities, expr_nodes, expr_in_form}
use Rattle.dj_tree.proofs.Growing.{at_number, kept_expr_form, expr_node_later}
use Rattle.dj_tree.proofs.Filling.{Filled, filled_next, filled_enough, filled_all, all_nodes}

-- a node with its arity is a mark
abbrev pub node_mark : List Text → ExprNode → Mark
node_mark names n = mark (expr_form names) node_arity n

-- some marks are done
abbrev pub ExprFilled : List ℕ → List ExprMark → List Text → List Text → List ExprNode → List ExprNode → ℕ → Type 0
ExprFilled bytes done names later old new root = Filled node_mark IsExprNode (plain_mark bytes) done names later old new root

weighs : (names : List Text) (n : ExprNode) → width (node_mark names n) ≡ node_arity n
weighs names n = refl

stays : (names later : List Text) (n : ExprNode) → Extends names later → IsExprNode names n → node_mark later n ≡ node_mark names n
stays names later n e h = ap (λ f. (f, node_arity n)) (kept_expr_form names later n e h)

order_is : (bytes : List ℕ) (marks : List ExprMark) → IsExprOrder marks → IsPostOrder (map width (plain_marks bytes marks))
order_is bytes marks order = ap (finished 0) (sym (expr_arities bytes marks)) ∙ order

pub expr_next : (bytes : List ℕ) (marks : List ExprMark) (i : ℕ) (d : ExprMark) (names between later : List Text) (old new newer : List ExprNode) (before root : ℕ) → i < length marks
    → ExprFilled bytes (take i marks) names between old new before → Extends between later → length later ≤ length between + 1 → root ≡ length new
    → (n : ExprNode) × (newer ≡ new ++ n ∷ []) × (expr_form later n ≡ (plain_mark bytes (get_or marks i d)).0) × (node_arity n ≡ (plain_mark bytes (get_or marks i d)).1) × IsExprNode later n
    → ExprFilled bytes (take (i + 1) marks) names later old newer root
expr_next bytes marks i d names between later old new newer before root inside f e few at n =
    filled_next node_arity node_mark IsExprNode (plain_mark bytes) width weighs stays expr_node_later marks i d names between later old new newer before root n.0 inside f e few n.1 at
    (ap₂ (λ x k. (x, k)) n.2 n.3) n.4

pub expr_enough : (bytes : List ℕ) (marks : List ExprMark) (i : ℕ) (m : ExprMark) (names later : List Text) (old new : List ExprNode) (root : ℕ) → IsExprOrder marks → slice_get marks i ≡ Some m
    → ExprFilled bytes (take i marks) names later old new root → (plain_mark bytes m).1 ≤ length (trees node_arity new)
expr_enough bytes marks i m names later old new root order at f =
    filled_enough node_arity node_mark IsExprNode (plain_mark bytes) width weighs stays expr_node_later marks i m names later old new root (order_is bytes marks order) at f

pub expr_all : (bytes : List ℕ) (marks : List ExprMark) (names later : List Text) (old new : List ExprNode) (root : ℕ) → IsExprOrder marks → ExprFilled bytes marks names later old new root
    → (plain_expr later new root ≡ expr_of (plain_marks bytes marks)) × (root < length new)
expr_all bytes marks names later old new root order f =
    let t = filled_all node_arity node_mark IsExprNode (plain_mark bytes) width weighs stays expr_node_later marks names later old new root (order_is bytes marks order) f in
    (ap (λ o. unwrap_or (option_map (in_form (expr_form later)) o) (null_at 0)) t.1 ∙ sym (expr_in_form (expr_form later) node_arity t.0 t.3) ∙ ap expr_of t.2, t.4)

-- the text of the name of each mark
pub expr_text : (P : Text → Type 0) (bytes : List ℕ) (marks : List ExprMark) (i : ℕ) (m : ExprMark) → IsExprOrder marks → ExprTexts P (expr_of (plain_marks bytes marks)) → slice_get marks i ≡ Some m
    → ExprFormText P (plain_mark bytes m).0
expr_text P bytes marks i m order texts at =
    let all = all_nodes (ExprFormText P) 0 (expr_of (plain_marks bytes marks)) texts in
    let there : slice_get (nodes (expr_of (plain_marks bytes marks))) i ≡ Some (form (plain_mark bytes m)) =
    ap (λ xs. slice_get xs i) (expr_nodes bytes marks order) ∙ slice_get-map form (plain_marks bytes marks) i
    ∙ ap (option_map form) (slice_get-map (plain_mark bytes) marks i ∙ ap (option_map (plain_mark bytes)) at) in
    at_number (ExprFormText P) (nodes (expr_of (plain_marks bytes marks))) i (form (plain_mark bytes m)) all there

-- as many nodes as marks
pub expr_few : (bytes : List ℕ) (done : List ExprMark) (names later : List Text) (old new : List ExprNode) (root : ℕ) → ExprFilled bytes done names later old new root → length new ≡ length old + length done
expr_few bytes done names later old new root f =
    omega (arith, ap length f.all, length-append old f.added, length-map f.added (node_mark later), ap length f.same, length-map done (plain_mark bytes))
