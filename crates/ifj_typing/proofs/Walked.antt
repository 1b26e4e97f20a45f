-- From the nodes of the code to plain expressions.
use Rattle.std.proofs.Common.{◌≡◌, ℕ, ◌<◌, List, [], ◌∷◌, map, length, Option, Some, get_or, refl, sym, ap, ◌∙◌, subst}
use Rattle.std.specs.Prelude.{unwrap_or}
use Rattle.std.specs.List.{AllZip}
use Rattle.std.specs.Option.{option_map}
use Rattle.std.proofs.lemmas.Option.{slice_get-get_or}
use Rattle.arena_walk.specs.Tree.{Tree, over}
use Rattle.arena_walk.specs.Forest.{tree_at}
use Rattle.arena_walk.proofs.Visitors.{tree_at_node, fold_each-trees_of}
use Rattle.dj_tree.specs.Arities.{expr_arity}
use Rattle.dj_tree.specs.Plain.{expr_form, in_form, plain_expr}
use Rattle.dj_tree.specs.Trees.{Expr, ExprForm}
use Rattle.dj_tree.specs.Trees as plain
use Rattle.dj_tree.specs.declared.expression.ExprNode.{ExprNode}
use Rattle.dj_tree.specs.declared.expression.ExprNode.TheVariants.{This}
use Rattle.dj_tree.proofs.InForm.{renamed}
use Rattle.ifj_typing.specs.Said.{IsRight}
use Rattle.ifj_typing.specs.Scopes.{scope_names, scope_table, scope_home}
use Rattle.ifj_typing.specs.declared.kind.Typed.{Typed}
use Rattle.ifj_typing.specs.declared.scope.Scope.{Scope}

-- a node over its children, in another form
pub in_form_over : {N F : Type 0} (form : N → F) (n : N) (kids : List (Tree N)) → in_form form (over n kids) ≡ over (form n) (map (in_form form) kids)
in_form_over form n kids = ap (over (form n)) (fold_each-trees_of (renamed form) kids)

pub outs_in_form : {N F B : Type 0} (form : N → F) (R : Tree F → B → Type 0) (kids : List (Tree N)) (outs : List B) → AllZip (λ kid out. R (in_form form kid) out) kids outs
    → AllZip R (map (in_form form) kids) outs
outs_in_form form R [] [] h = h
outs_in_form form R [] (y ∷ ys) h = absurd h
outs_in_form form R (x ∷ xs) [] h = absurd h
outs_in_form form R (x ∷ xs) (y ∷ ys) h = (h.0, outs_in_form form R xs ys h.1)

-- what stands for the tree of a root stands for its expression
pub walked : (s : Scope) (exprs : List ExprNode) (root : ℕ) (out : Typed) → root < length exprs
    → ((tree : Tree ExprNode) → tree_at expr_arity exprs root ≡ Some tree → IsRight (scope_table s) (scope_home s) (scope_names s) (in_form (expr_form (scope_names s)) tree) out)
    → IsRight (scope_table s) (scope_home s) (scope_names s) (plain_expr (scope_names s) exprs root) out
walked s exprs root out low all = by (tree_at expr_arity exprs root) (tree_at_node expr_arity exprs root (get_or exprs root (This 0)) (slice_get-get_or exprs root (This 0) low)) refl
  where
    by : {tree : Tree ExprNode} (o : Option (Tree ExprNode)) → o ≡ Some tree → tree_at expr_arity exprs root ≡ o
        → IsRight (scope_table s) (scope_home s) (scope_names s) (unwrap_or (option_map (in_form (expr_form (scope_names s))) (tree_at expr_arity exprs root)) (plain.null_at 0)) out
    by {tree = tree} o is there =
        subst (λ (found : Option (Tree ExprNode)). IsRight (scope_table s) (scope_home s) (scope_names s) (unwrap_or (option_map (in_form (expr_form (scope_names s))) found) (plain.null_at 0)) out)
        (sym (there ∙ is)) (all tree (there ∙ is))

-- and so it does where the scope is as before
pub walked_grown : (old new : Scope) (exprs : List ExprNode) (root : ℕ) (out : Typed) → new ≡ old → root < length exprs
    → ((tree : Tree ExprNode) → tree_at expr_arity exprs root ≡ Some tree → IsRight (scope_table new) (scope_home new) (scope_names new) (in_form (expr_form (scope_names new)) tree) out)
    → IsRight (scope_table old) (scope_home old) (scope_names old) (plain_expr (scope_names old) exprs root) out
walked_grown old new exprs root out grown low all =
    walked old exprs root out low
    (λ tree is. subst (λ (s : Scope). IsRight (scope_table s) (scope_home s) (scope_names s) (in_form (expr_form (scope_names s)) tree) out) grown (all tree is))
