-- The parts of a node of an arena, as they are written.
use Rattle.std.proofs.Common.{◌≡◌, ℕ, ◌+◌, ◌<◌, List, [], ◌∷◌, map, drop, length, Some, Option, slice_get, refl, sym, ap, ◌∙◌, subst, arith}
use Rattle.std.specs.Prelude.{unwrap_or}
use Rattle.std.specs.Option.{option_map, ForSome}
use Rattle.dj_names.specs.Texts.{Text}
use Rattle.arena_walk.specs.Tree.{Tree, trees_of, over, children_of, fold_tree, fold_each}
use Rattle.arena_walk.specs.Forest.{tree_at}
use Rattle.arena_walk.proofs.TreeLemmas.{list_of-trees_of, drop_at_place}
use Rattle.arena_walk.proofs.ForestLemmas.{tree_at_node}
use Rattle.dj_tree.specs.Arities.{expr_arity}
use Rattle.dj_tree.specs.Plain.{expr_form, in_form}
use Rattle.dj_tree.specs.Trees.{null_at}
use Rattle.dj_tree.proofs.InForm.{renamed}
use Rattle.dj_tree.specs.declared.expression.ExprNode.{ExprNode}
use Rattle.dj_calculus.specs.JavaText.{written_over, text_over}
use Rattle.java_text.specs.Pieces.{IsNode, kids_at, written, written_at, works, each_work, tree_work, work_at}

pub kids_are : (exprs : List ExprNode) (at : ℕ) (n : ExprNode) (kids : List (Tree ExprNode)) → tree_at expr_arity exprs at ≡ Some (over n kids) → kids_at exprs at ≡ kids
kids_are exprs at n kids is = ap (λ o. unwrap_or (option_map children_of o) []) is ∙ list_of-trees_of kids

-- the tree of a number, over the parts of its node
pub tree_here : (exprs : List ExprNode) (at : ℕ) (n : ExprNode) (kids : List (Tree ExprNode)) → tree_at expr_arity exprs at ≡ Some (over n kids) → tree_at expr_arity exprs at ≡ Some (over n (kids_at exprs at))
tree_here exprs at n kids is = is ∙ ap (λ ks. Some (over n ks)) (sym (kids_are exprs at n kids is))

pub works_each : (kids : List (Tree ExprNode)) → works (trees_of kids) ≡ each_work kids
works_each [] = refl
works_each (t ∷ ts) = ap (λ w. tree_work t + 1 + w) (works_each ts)

written_kids : (names : List Text) (kids : List (Tree ExprNode)) → fold_each written_over (trees_of (fold_each (renamed (expr_form names)) (trees_of kids))) ≡ map (written names) kids
written_kids names [] = refl
written_kids names (t ∷ ts) = ap (λ ws. written names t ∷ ws) (written_kids names ts)

-- what is written of a tree of the arena, and its work
pub written_tree : (names : List Text) (exprs : List ExprNode) (at : ℕ) (t : Tree ExprNode) → tree_at expr_arity exprs at ≡ Some t → written_at names exprs at ≡ written names t
written_tree names exprs at t is = ap (λ o. fold_tree written_over (unwrap_or (option_map (in_form (expr_form names)) o) (null_at 0))) is

pub work_tree : (exprs : List ExprNode) (at : ℕ) (t : Tree ExprNode) → tree_at expr_arity exprs at ≡ Some t → work_at exprs at ≡ tree_work t
work_tree exprs at t is = ap (λ o. unwrap_or (option_map tree_work o) 0) is

pub written_here : (names : List Text) (exprs : List ExprNode) (at : ℕ) (n : ExprNode) (kids : List (Tree ExprNode)) → tree_at expr_arity exprs at ≡ Some (over n kids)
    → written_at names exprs at ≡ written_over (expr_form names n) (map (written names) kids)
written_here names exprs at n kids is = written_tree names exprs at (over n kids) is ∙ ap (written_over (expr_form names n)) (written_kids names kids)

pub work_here : (exprs : List ExprNode) (at : ℕ) (n : ExprNode) (kids : List (Tree ExprNode)) → tree_at expr_arity exprs at ≡ Some (over n kids) → work_at exprs at ≡ each_work kids + 9
work_here exprs at n kids is = work_tree exprs at (over n kids) is ∙ ap (λ w. w + 9) (works_each kids)

-- a node is there at each number
pub tree_there : (exprs : List ExprNode) (at : ℕ) → at < length exprs → (n : ExprNode) × (tree_at expr_arity exprs at ≡ Some (over n (kids_at exprs at)))
tree_there exprs at low =
    let place = drop_at_place exprs at low in
    (place.0, tree_here exprs at place.0 _ (tree_at_node expr_arity exprs at place.0 place.2))

pub is_node : (exprs : List ExprNode) (at : ℕ) (n : ExprNode) → slice_get exprs at ≡ Some n → (kids : List (Tree ExprNode)) × (length kids ≡ expr_arity n) × (tree_at expr_arity exprs at ≡ Some (over n kids)) → IsNode exprs at n
is_node exprs at n stands (kids, many, is) = record { stands = stands; tree = tree_here exprs at n kids is; many = ap length (kids_are exprs at n kids is) ∙ many }

pub has_part : (exprs : List ExprNode) (at : ℕ) (n : ExprNode) (k : ℕ) → IsNode exprs at n → k < expr_arity n → ForSome (slice_get exprs at) (λ m. k < expr_arity m)
has_part exprs at n k is low = λ m e. let same : n ≡ m = one is.stands e in subst (λ x. k < expr_arity x) same low
  where
    one : {X : Type 0} {o : _} {x y : X} → o ≡ Some x → o ≡ Some y → x ≡ y
    one p q = cc

-- the text and the work of a node over its parts
pub node_text : (names : List Text) (exprs : List ExprNode) (at : ℕ) (n : ExprNode) (kids : List (Tree ExprNode)) → IsNode exprs at n → kids_at exprs at ≡ kids
    → (written_at names exprs at).text ≡ text_over (expr_form names n) (map (written names) kids)
node_text names exprs at n kids is same = ap (λ w. w.text) (written_here names exprs at n (kids_at exprs at) is.tree) ∙ ap (λ ks. text_over (expr_form names n) (map (written names) ks)) same

pub node_work : (exprs : List ExprNode) (at : ℕ) (n : ExprNode) (kids : List (Tree ExprNode)) → IsNode exprs at n → kids_at exprs at ≡ kids → work_at exprs at ≡ each_work kids + 9
node_work exprs at n kids is same = work_here exprs at n (kids_at exprs at) is.tree ∙ ap (λ ks. each_work ks + 9) same

-- the parts that are read off the arena by their numbers
pub no_parts : {X : Type 0} (xs : List X) → length xs ≡ 0 → xs ≡ []
no_parts [] e = refl
no_parts (x ∷ xs) e = absurd (omega (arith, e))

pub first_part : {X : Type 0} (xs : List X) (o : Option X) → 0 < length xs → o ≡ slice_get xs 0 → (x : X) × (o ≡ Some x) × (xs ≡ x ∷ drop 1 xs)
first_part [] o low e = absurd (omega (arith, low))
first_part (x ∷ xs) o low e = (x, e, refl)

pub only_part : {X : Type 0} (xs : List X) (o : Option X) → length xs ≡ 1 → o ≡ slice_get xs 0 → (x : X) × (o ≡ Some x) × (xs ≡ x ∷ [])
only_part [] o many e = absurd (omega (arith, many))
only_part (x ∷ xs) o many e = (x, e, ap (λ ys. x ∷ ys) (no_parts xs (omega (arith, many))))

pub two_parts : {X : Type 0} (xs : List X) (o p : Option X) → length xs ≡ 2 → o ≡ slice_get xs 0 → p ≡ slice_get xs 1 → (x : X) × ((y : X) × (o ≡ Some x) × (p ≡ Some y) × (xs ≡ x ∷ y ∷ []))
two_parts [] o p many e f = absurd (omega (arith, many))
two_parts (x ∷ xs) o p many e f =
    let second = only_part xs p (omega (arith, many)) f in
    (x, (second.0, e, second.1, ap (λ ys. x ∷ ys) second.2))
