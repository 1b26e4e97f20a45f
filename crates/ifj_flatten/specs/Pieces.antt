-- Pieces of a body that are still to be put behind the nodes of a made body, on a stack that is seen as a list, its top first.
use Rattle.std.specs.Prelude.{◌≡◌, ℕ, ◌+◌, ◌*◌, ◌<◌, List, [], ◌∷◌, ◌++◌, length, map, slice_get, unwrap_or, Some}
use Rattle.std.specs.Option.{option_map}
use Rattle.dj_names.specs.Texts.{Text}
use Rattle.arena_walk.specs.Tree.{over, size}
use Rattle.arena_walk.specs.Forest.{trees, tree_at}
use Rattle.dj_tree.specs.Arities.{expr_arity}
use Rattle.dj_tree.specs.Plain.{expr_form, in_form, plain_expr}
use Rattle.dj_tree.specs.Trees.{Expr, ExprForm, CallForm, OriginalForm, this_at}
use Rattle.dj_tree.specs.declared.expression.ExprNode.{ExprNode}
use Rattle.dj_tree.specs.declared.expression.ExprNode.TheVariants.{Original}
use Rattle.dj_calculus.specs.FlatTables.{calling}
use Rattle.ifj_flatten.specs.declared.body.Piece.{Piece}
use Rattle.ifj_flatten.specs.declared.body.Piece.TheVariants.{Tree, Root, This}

-- ---- a made node: `original(..)` as a call of this method of `this`

abbrev pub called_form : Text → ExprForm → ExprForm
called_form name (OriginalForm at) = CallForm (record { text = name; at = at })
called_form name form = form

-- the receiver that stands before its other parts
abbrev pub receivers : ExprForm → List Expr
receivers (OriginalForm at) = this_at at ∷ []
receivers form = []

-- how many parts it has
abbrev pub called_arity : ExprNode → ℕ
called_arity (Original at arguments) = arguments + 1
called_arity node = expr_arity node

-- the finished trees of an arena
abbrev pub forest : List Text → List ExprNode → List Expr
forest names exprs = map (in_form (expr_form names)) (trees expr_arity exprs)

-- ---- pieces

-- What a piece makes of the finished trees, and what has to hold of them then: a tree is put behind them as it is made, a node takes
-- the last ones for its parts, and `this` goes behind them.
abbrev pub Makes : Text → List Text → List ExprNode → Piece → (List Expr → Type 0) → List Expr → Type 0
Makes name names exprs (Tree at) Then ts = (at.0 < length exprs) × Then (ts ++ calling name (plain_expr names exprs at.0) ∷ [])
Makes name names exprs (Root at) Then ts =
    (node : ExprNode) × (front : List Expr) × (parts : List Expr) × (slice_get exprs at.0 ≡ Some node) × (ts ≡ front ++ parts)
    × (length parts ≡ called_arity node)
    × Then (front ++ over (called_form name (expr_form names node)) parts ∷ [])
Makes name names exprs (This at) Then ts = Then (ts ++ this_at at ∷ [])

-- the pieces, from the top on, make these trees of those
abbrev pub MakesAll : Text → List Text → List ExprNode → List Piece → List Expr → List Expr → Type 0
MakesAll name names exprs [] made ts = ts ≡ made
MakesAll name names exprs (p ∷ ps) made ts = Makes name names exprs p (MakesAll name names exprs ps made) ts

-- ---- how many pieces there are in all

abbrev pub tree_size : List ExprNode → ℕ → ℕ
tree_size exprs at = unwrap_or (option_map size (tree_at expr_arity exprs at)) 0

abbrev pub piece_work : List ExprNode → Piece → ℕ
piece_work exprs (Tree at) = 3 * tree_size exprs at.0
piece_work exprs (Root at) = 1
piece_work exprs (This at) = 1

abbrev pub total_work : List ExprNode → List Piece → ℕ
total_work exprs [] = 0
total_work exprs (p ∷ ps) = piece_work exprs p + total_work exprs ps

-- the tree of this node, which stood on the stack, was replaced by its pieces
pub record IsOpened (exprs : List ExprNode) (at : ℕ) (old new : List Piece) : Type 0 where
  pub same : (name : Text) (names : List Text) (made ts : List Expr)
      → MakesAll name names exprs old made (ts ++ calling name (plain_expr names exprs at) ∷ []) → MakesAll name names exprs new made ts
  pub less : total_work exprs new < 3 * tree_size exprs at + total_work exprs old

-- a piece was taken off the stack, and what it makes was made, or it was replaced by its pieces
pub record IsDone (name : Text) (names : List Text) (exprs : List ExprNode) (piece : Piece) (old new : List Piece) (before after : List Expr) : Type 0 where
  pub same : (made : List Expr) → Makes name names exprs piece (MakesAll name names exprs old made) before → MakesAll name names exprs new made after
  pub less : total_work exprs new < piece_work exprs piece + total_work exprs old
