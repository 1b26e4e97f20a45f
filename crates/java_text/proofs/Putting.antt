-- Pieces that are put on the stack, one after another.
use Rattle.std.proofs.Common.{◌≡◌, ℕ, ◌+◌, ◌≤◌, List, [], ◌∷◌, ◌++◌, sym, ap, ◌∙◌, subst, append_assoc, arith}
use Rattle.std.specs.Prelude.{All}
use Rattle.std.proofs.lemmas.List.Elements.{All-append, All-push, All-nil}
use Rattle.dj_names.specs.Texts.{Text}
use Rattle.dj_tree.specs.declared.expression.ExprNode.{ExprNode}
use Rattle.java_text.specs.declared.pieces.Piece.{Piece}
use Rattle.std.specs.Borrow.{Bor}
use Rattle.java_text.specs.declared.pieces.Piece.TheVariants.{Mark}
use Rattle.java_text.specs.Pieces.{Puts, IsPiece, piece_text, piece_work, pending, total_work}

module _ (names : List Text) (exprs : List ExprNode) where
  all_more : (p : Piece) (ps : List Piece) → IsPiece names exprs p → All (IsPiece names exprs) ps → All (IsPiece names exprs) (p ∷ ps)
  all_more p ps is all = All-append (IsPiece names exprs) (p ∷ []) ps (All-push (IsPiece names exprs) [] p (All-nil (IsPiece names exprs)) is) all

  -- one piece
  pub puts_one : {old new : List Piece} (p : Piece) → IsPiece names exprs p → new ≡ p ∷ old → Puts names exprs (piece_text names exprs p) (piece_work exprs p) old new
  puts_one {old} p is on = record {
    text_is = ap (pending names exprs) on;
    known = λ all. subst (All (IsPiece names exprs)) (sym on) (all_more p old is all);
    enough = let same = ap (total_work exprs) on in omega (arith, same);
  }

  -- a constant text
  pub puts_mark : {old new : List Piece} (mark : Bor Text) → new ≡ Mark mark ∷ old → Puts names exprs mark.now 1 old new
  puts_mark mark on = puts_one (Mark mark) tt on

  -- nothing
  pub puts_none : {old new : List Piece} {work : ℕ} → new ≡ old → Puts names exprs [] work old new
  puts_none {old} {new} {work} same = record {
    text_is = ap (pending names exprs) same;
    known = λ all. subst (All (IsPiece names exprs)) (sym same) all;
    enough = let work_is = ap (total_work exprs) same in omega (arith, work_is);
  }

  -- what is put behind something else stands before it
  pub puts_then : {a b c : List Piece} {t u : Text} {w v : ℕ} → Puts names exprs t w a b → Puts names exprs u v b c → Puts names exprs (u ++ t) (v + w) a c
  puts_then {a} {b} {c} {t} {u} {w} {v} first second = record {
    text_is = second.text_is ∙ ap (λ x. u ++ x) first.text_is ∙ sym (append_assoc u t (pending names exprs a));
    known = λ all. second.known (first.known all);
    enough = omega (arith, first.enough, second.enough);
  }

  -- the same text said otherwise, with more work
  pub puts_as : {a b : List Piece} {t u : Text} {w v : ℕ} → Puts names exprs t w a b → t ≡ u → w ≤ v → Puts names exprs u v a b
  puts_as {a} {b} {t} {u} {w} {v} puts same less = record {
    text_is = puts.text_is ∙ ap (λ x. x ++ pending names exprs a) same;
    known = puts.known;
    enough = omega (arith, puts.enough, less);
  }
