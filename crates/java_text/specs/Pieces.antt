-- Pieces of an expression's text that are still to be written, on a stack that is seen as a list, its top first.
use Rattle.std.specs.Prelude.{Bool, true, false, ℕ, zero, suc, ◌+◌, ◌<◌, ◌≤◌, ◌≡◌, List, [], ◌∷◌, ◌++◌, All, codes, length, slice_get, Some, unwrap_or, ◌-◌, Result, OnOk}
use Rattle.std.specs.Option.{option_map}
use Rattle.dj_names.specs.Texts.{Text}
use Rattle.arena_walk.specs.Tree.{Tree, Trees, branch, no_trees, tree_and, children_of, over, fold_tree}
use Rattle.arena_walk.specs.Forest.{tree_at}
use Rattle.dj_tree.specs.Arities.{expr_arity}
use Rattle.dj_tree.specs.Plain.{expr_form, plain_expr, in_form}
use Rattle.dj_tree.specs.WellFormed.{IsExprNode}
use Rattle.dj_tree.specs.declared.expression.ExprNode.{ExprNode}
use Rattle.dj_calculus.specs.JavaText.{in_parentheses, Written, written_over}
use Rattle.java_text.specs.declared.pieces.Piece.{Piece}
use Rattle.java_text.specs.declared.pieces.Piece.TheVariants.{Node, Name as AName, Mark}

-- ---- expressions of an arena

-- a tree as it is written, and the tree at a number
abbrev pub written : List Text → Tree ExprNode → Written
written names tree = fold_tree written_over (in_form (expr_form names) tree)

abbrev pub written_at : List Text → List ExprNode → ℕ → Written
written_at names exprs at = fold_tree written_over (plain_expr names exprs at)

-- the parts of a node
abbrev pub kids_at : List ExprNode → ℕ → List (Tree ExprNode)
kids_at exprs at = unwrap_or (option_map children_of (tree_at expr_arity exprs at)) []

-- a node of the arena, which stands over its parts
pub record IsNode (exprs : List ExprNode) (at : ℕ) (n : ExprNode) : Type 0 where
  pub stands : slice_get exprs at ≡ Some n
  pub tree : tree_at expr_arity exprs at ≡ Some (over n (kids_at exprs at))
  pub many : length (kids_at exprs at) ≡ expr_arity n

-- more than the pieces that a tree is cut into
abbrev mutual
  pub tree_work : Tree ExprNode → ℕ
  tree_work (branch n ks) = works ks + 9

  pub works : Trees ExprNode → ℕ
  works no_trees = 0
  works (tree_and t ts) = tree_work t + 1 + works ts

abbrev pub each_work : List (Tree ExprNode) → ℕ
each_work [] = 0
each_work (t ∷ ts) = tree_work t + 1 + each_work ts

abbrev pub work_at : List ExprNode → ℕ → ℕ
work_at exprs at = unwrap_or (option_map tree_work (tree_at expr_arity exprs at)) 0

-- ---- pieces

abbrev pub piece_text : List Text → List ExprNode → Piece → Text
piece_text names exprs (Node at) = (written_at names exprs at.0).text
piece_text names exprs (AName name) = unwrap_or (slice_get names name.0) []
piece_text names exprs (Mark mark) = mark.now

abbrev pub piece_work : List ExprNode → Piece → ℕ
piece_work exprs (Node at) = work_at exprs at.0
piece_work exprs (AName name) = 1
piece_work exprs (Mark mark) = 1

-- the name or the node is there
abbrev pub IsPiece : List Text → List ExprNode → Piece → Type 0
IsPiece names exprs (Node at) = at.0 < length exprs
IsPiece names exprs (AName name) = name.0 < length names
IsPiece names exprs (Mark mark) = Unit {0}

-- the text of all
abbrev pub pending : List Text → List ExprNode → List Piece → Text
pending names exprs [] = []
pending names exprs (p ∷ ps) = piece_text names exprs p ++ pending names exprs ps

abbrev pub total_work : List ExprNode → List Piece → ℕ
total_work exprs [] = 0
total_work exprs (p ∷ ps) = piece_work exprs p + total_work exprs ps

-- pieces of this text, with no more than this work, were put on the stack
pub record Puts (names : List Text) (exprs : List ExprNode) (text : Text) (work : ℕ) (old new : List Piece) : Type 0 where
  pub text_is : pending names exprs new ≡ text ++ pending names exprs old
  pub known : All (IsPiece names exprs) old → All (IsPiece names exprs) new
  pub enough : total_work exprs new ≤ work + total_work exprs old

-- what stands before so many arguments
abbrev pub comma : ℕ → Text
comma zero = []
comma (suc n) = codes ", "

-- where it gives a value, the pieces of the node were put on the stack
abbrev pub PutsNode : {T E : Type 0} → Result T E → List ExprNode → ℕ → List Piece → List Piece → Type 0
PutsNode result exprs at old new =
    (names : List Text) → All (IsExprNode names) exprs → OnOk result (Puts names exprs (written_at names exprs at).text (work_at exprs at - 1) old new)

-- a piece was taken off the stack and written, or replaced by the pieces of its node
pub record IsDone (names : List Text) (exprs : List ExprNode) (piece : Piece) (old new : List Piece) (before after : Text) : Type 0 where
  pub text_is : after ++ pending names exprs new ≡ before ++ (piece_text names exprs piece ++ pending names exprs old)
  pub known : All (IsPiece names exprs) old → All (IsPiece names exprs) new
  pub less : total_work exprs new < piece_work exprs piece + total_work exprs old

abbrev pub enclosed_if : Bool → Text → Text
enclosed_if true text = in_parentheses text
enclosed_if false text = text
