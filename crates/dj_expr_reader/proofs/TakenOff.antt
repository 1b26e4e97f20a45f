-- Finishing casts and assignments one by one.
use Rattle.std.proofs.Common.{◌≡◌, ℕ, ◌<◌, List, [], ◌∷◌, ◌++◌, length, Some, None, Result, Ok, Err, IfOk, OnOk, refl, sym, ap, ◌∙◌, append_assoc, arith}
use Rattle.std.proofs.lemmas.List.{map_push}
use Rattle.dj_expr_reader.specs.declared.machine.ExprMark.{ExprMark}
use Rattle.dj_expr_reader.specs.declared.machine.ExprMark.TheVariants as node
use Rattle.dj_expr_reader.specs.declared.machine.Frame.{Frame}
use Rattle.dj_expr_reader.specs.declared.machine.Frame.TheVariants.{Bracket, Cast, Assign, Arguments}
use Rattle.std.specs.declared.alloc.AllocError.{AllocError}
use Rattle.dj_expr_reader.specs.declared.machine.Machine.{Machine}
use Rattle.dj_expr_reader.specs.declared.machine.Mode.TheVariants.{Holding}
use Rattle.dj_expr_reader.specs.declared.machine.Turn.{Turn}
use Rattle.dj_expr_reader.specs.declared.machine.Turn.TheVariants.{Goes}
use Rattle.dj_expr_reader.specs.Machine as plain
use Rattle.dj_expr_reader.specs.Machine.{kept, passed, Move, go}
use Rattle.dj_expr_reader.specs.View.{plain_mark, plain_marks, plain_frames, plain_move, Finishes}

-- what is still to be finished, with what is finished, is what was to be finished at first
pub record Finishing (first : List Frame) (first_marks : List ExprMark) (frames : List Frame) (marks : List ExprMark) : Type 0 where
  pub still : (bytes : List ℕ) → kept (plain_frames bytes frames) ≡ kept (plain_frames bytes first)
  pub made : (bytes : List ℕ) → plain_marks bytes marks ++ passed (plain_frames bytes frames) ≡ plain_marks bytes first_marks ++ passed (plain_frames bytes first)

-- one that is taken off
pub record Off (frames later : List Frame) (mark : ExprMark) : Type 0 where
  pub still : (bytes : List ℕ) → kept (plain_frames bytes frames) ≡ kept (plain_frames bytes later)
  pub leaves : (bytes : List ℕ) → passed (plain_frames bytes frames) ≡ plain_mark bytes mark ∷ passed (plain_frames bytes later)
  pub fewer : length later < length frames

off : (frames later : List Frame) (mark : ExprMark) → Finishes frames (Some mark) later → Off frames later mark
off [] later mark e = absurd cc
off (Bracket ∷ frames) later mark e = absurd cc
off (Arguments callee count ∷ frames) later mark e = absurd cc
off (Cast class ∷ frames) later mark e =
    let same : mark ≡ node.Cast class = cc in
    record {
      still = λ bytes. rw e.1 refl;
      leaves = λ bytes. rw (same, e.1) refl;
      fewer = let size : length later ≡ length frames = ap length e.1 in omega (arith, size);
    }
off (Assign f ∷ frames) later mark e =
    let same : mark ≡ node.Assign f = cc in
    record {
      still = λ bytes. rw e.1 refl;
      leaves = λ bytes. rw (same, e.1) refl;
      fewer = let size : length later ≡ length frames = ap length e.1 in omega (arith, size);
    }

pub one_finished : (first : List Frame) (first_marks : List ExprMark) (frames later : List Frame) (marks more : List ExprMark) (mark : ExprMark) → Finishing first first_marks frames marks
    → Finishes frames (Some mark) later → more ≡ marks ++ mark ∷ [] → Finishing first first_marks later more
one_finished first first_marks frames later marks more mark f e new =
    let o = off frames later mark e in
    record {
      still = λ bytes. sym (o.still bytes) ∙ f.still bytes;
      made = λ bytes.
          ap (λ ms. plain_marks bytes ms ++ passed (plain_frames bytes later)) new ∙ ap (λ l. l ++ passed (plain_frames bytes later)) (map_push (plain_mark bytes) marks mark)
          ∙ append_assoc (plain_marks bytes marks) (plain_mark bytes mark ∷ []) (passed (plain_frames bytes later))
          ∙ ap (λ l. plain_marks bytes marks ++ l) (sym (o.leaves bytes)) ∙ f.made bytes;
    }

pub fewer : (frames later : List Frame) (mark : ExprMark) → Finishes frames (Some mark) later → length later < length frames
fewer frames later mark e = (off frames later mark e).fewer

-- where none is taken off, none is there
pub record Done (frames later : List Frame) : Type 0 where
  pub same : later ≡ frames
  pub still : (bytes : List ℕ) → kept (plain_frames bytes frames) ≡ plain_frames bytes frames
  pub leaves : (bytes : List ℕ) → passed (plain_frames bytes frames) ≡ []

pub done : (frames later : List Frame) → Finishes frames None later → Done frames later
done [] later e = record { same = e.1; still = λ bytes. refl; leaves = λ bytes. refl }
done (Bracket ∷ frames) later e = record { same = e.1; still = λ bytes. refl; leaves = λ bytes. refl }
done (Arguments callee count ∷ frames) later e = record { same = e.1; still = λ bytes. refl; leaves = λ bytes. refl }
done (Cast class ∷ frames) later e = absurd cc
done (Assign f ∷ frames) later e = absurd cc

-- a machine that holds an operand
pub held : (bytes : List ℕ) (r : Result Turn AllocError) (new : Machine) (frames : List Frame) (marks : List ExprMark) (mark : ExprMark) (move : Move)
    → IfOk r (λ turn. turn ≡ Goes) → OnOk r (new.mode ≡ Holding) → OnOk r (new.frames ≡ frames) → OnOk r (new.marks.items ≡ marks ++ mark ∷ [])
    → move ≡ go plain.Holding (plain_frames bytes frames) (plain_marks bytes marks ++ plain_mark bytes mark ∷ []) → IfOk r (λ turn. move ≡ plain_move bytes turn new)
held bytes (Ok turn) new frames marks mark move t m f k e =
    e ∙ sym (rw (t, m, f, k) (ap (go plain.Holding (plain_frames bytes frames)) (map_push (plain_mark bytes) marks mark)))
held bytes (Err error) new frames marks mark move t m f k e = tt
