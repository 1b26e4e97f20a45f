-- Pieces that are written one by one.
use Rattle.std.proofs.Common.{◌≡◌, ℕ, ◌-◌, ◌<◌, List, [], ◌∷◌, ◌++◌, length, refl, sym, ap, ◌∙◌, subst, append_assoc, arith}
use Rattle.std.specs.Prelude.{All}
use Rattle.std.proofs.lemmas.List.{append-nil}
use Rattle.std.proofs.lemmas.List.Elements.{All-drop, All-push, All-nil}
use Rattle.dj_names.specs.Texts.{Text}
use Rattle.dj_tree.specs.declared.expression.ExprNode.{ExprNode}
use Rattle.java_text.specs.declared.pieces.Piece.{Piece}
use Rattle.java_text.specs.declared.pieces.Piece.TheVariants.{Node}
use Rattle.java_text.specs.Pieces.{Puts, IsDone, IsPiece, piece_text, piece_work, pending, total_work, written_at, work_at}
use Rattle.java_text.proofs.Parts.{tree_there, work_here}
use Rattle.ifj_table.proofs.TableLemmas.{all_at}

module _ (names : List Text) (exprs : List ExprNode) where
  -- a name or a constant text
  pub appended : (piece : Piece) (pieces : List Piece) (before after : Text) → piece_work exprs piece ≡ 1 → after ≡ before ++ piece_text names exprs piece → IsDone names exprs piece pieces pieces before after
  appended piece pieces before after one is = record {
    text_is = ap (λ t. t ++ pending names exprs pieces) is ∙ append_assoc before (piece_text names exprs piece) (pending names exprs pieces);
    known = λ all. all;
    less = omega (arith, one);
  }

  -- the pieces of a node
  pub replaced : (at : ℕ) (old new : List Piece) (text : Text) → at < length exprs → Puts names exprs (written_at names exprs at).text (work_at exprs at - 1) old new → IsDone names exprs (Node (record { 0 = at })) old new text text
  replaced at old new text low put =
      let here = tree_there exprs at low in
      let work = work_here exprs at here.0 _ here.1 in
      record {
        text_is = ap (λ t. text ++ t) put.text_is;
        known = put.known;
        less = omega (arith, put.enough, work);
      }

  -- what is written, and then what is still to be written, stays the same
  pub record IsWriting (pieces : List Piece) (text whole : Text) : Type 0 where
    pub text_is : text ++ pending names exprs pieces ≡ whole
    pub known : All (IsPiece names exprs) pieces

  pub first_known : (p : Piece) (ps : List Piece) → All (IsPiece names exprs) (p ∷ ps) → IsPiece names exprs p
  first_known p ps all = all_at (IsPiece names exprs) (p ∷ ps) 0 p all refl

  pub others_known : (p : Piece) (ps : List Piece) → All (IsPiece names exprs) (p ∷ ps) → All (IsPiece names exprs) ps
  others_known p ps all = All-drop (IsPiece names exprs) 1 (p ∷ ps) all

  pub begins : (at : ℕ) (pieces : List Piece) (text : Text) → at < length exprs → pieces ≡ Node (record { 0 = at }) ∷ [] → IsWriting pieces text (text ++ (written_at names exprs at).text)
  begins at pieces text low on = record {
    text_is = ap (λ ps. text ++ pending names exprs ps) on ∙ ap (λ t. text ++ t) (append-nil (written_at names exprs at).text);
    known = subst (All (IsPiece names exprs)) (sym on) (All-push (IsPiece names exprs) [] _ (All-nil (IsPiece names exprs)) low);
  }

  pub goes_on : (piece : Piece) (pieces old new : List Piece) (before after whole : Text) → pieces ≡ piece ∷ old → IsWriting pieces before whole → IsDone names exprs piece old new before after → IsWriting new after whole
  goes_on piece pieces old new before after whole top writing one =
      let all = subst (All (IsPiece names exprs)) top writing.known in
      record {
        text_is = one.text_is ∙ sym (ap (λ ps. before ++ pending names exprs ps) top) ∙ writing.text_is;
        known = one.known (others_known piece old all);
      }

  pub fewer : (piece : Piece) (pieces old new : List Piece) (before after : Text) → pieces ≡ piece ∷ old → IsDone names exprs piece old new before after → total_work exprs new < total_work exprs pieces
  fewer piece pieces old new before after top one = let all = ap (total_work exprs) top in omega (arith, one.less, all)

  pub ends : (pieces : List Piece) (text whole : Text) → pieces ≡ [] → IsWriting pieces text whole → text ≡ whole
  ends pieces text whole none writing = sym (append-nil text) ∙ sym (ap (λ ps. text ++ pending names exprs ps) none) ∙ writing.text_is
