-- Receivers and operands by the nodes at their roots.
use Rattle.std.proofs.Common.{◌≡◌, ℕ, List, Bool, true, false, Some, refl, sym, ap, ◌∙◌}
use Rattle.std.specs.Prelude.{◌||◌, if◌then◌else◌}
use Rattle.dj_names.specs.Texts.{Text}
use Rattle.arena_walk.specs.Tree.{Tree, over}
use Rattle.arena_walk.specs.Forest.{tree_at}
use Rattle.dj_tree.specs.Arities.{expr_arity}
use Rattle.dj_tree.specs.Plain.{expr_form}
use Rattle.dj_tree.specs.declared.expression.ExprNode.{ExprNode}
use Rattle.dj_calculus.specs.JavaText.{is_cast, is_assignment, in_parentheses, receiver, operand}
use Rattle.java_text.specs.Pieces.{written_at, enclosed_if}
use Rattle.java_text.proofs.Parts.{written_here}

form_here : (names : List Text) (exprs : List ExprNode) (at : ℕ) (n : ExprNode) (kids : List (Tree ExprNode)) → tree_at expr_arity exprs at ≡ Some (over n kids) → (written_at names exprs at).form ≡ expr_form names n
form_here names exprs at n kids is = ap (λ w. w.form) (written_here names exprs at n kids is)

chosen : (b : Bool) (text : Text) → enclosed_if b text ≡ (if b then in_parentheses text else text)
chosen true text = refl
chosen false text = refl

module _ (names : List Text) (exprs : List ExprNode) (at : ℕ) (n : ExprNode) (kids : List (Tree ExprNode)) (is : tree_at expr_arity exprs at ≡ Some (over n kids)) (b : Bool) where
  -- a receiver and an operand, by what tells whether they stand in parentheses
  pub as_receiver : b ≡ (is_cast (expr_form names n) || is_assignment (expr_form names n)) → enclosed_if b (written_at names exprs at).text ≡ receiver (written_at names exprs at)
  as_receiver e =
      let w = written_at names exprs at in
      chosen b w.text ∙ ap (λ c. if c then in_parentheses w.text else w.text) (e ∙ ap (λ f. is_cast f || is_assignment f) (sym (form_here names exprs at n kids is)))

  pub as_operand : b ≡ is_assignment (expr_form names n) → enclosed_if b (written_at names exprs at).text ≡ operand (written_at names exprs at)
  as_operand e =
      let w = written_at names exprs at in
      chosen b w.text ∙ ap (λ c. if c then in_parentheses w.text else w.text) (e ∙ ap is_assignment (sym (form_here names exprs at n kids is)))
