-- A step adds one to the number of complete arguments at most.
use Rattle.std.proofs.Common.{◌≡◌, ℕ, ◌+◌, ◌<◌, Bool, true, false, cond, List, [], ◌∷◌, ◌++◌, subst, arith, sym, ◌≤◌}
use Rattle.std.specs.Prelude.{codes, ◌&&◌}
use Rattle.dj_lexer.specs.Symbols.{Symbol}
use Rattle.dj_lexer.specs.declared.token.Dialect.{Dialect}
use Rattle.dj_tree.specs.Trees.{Spot}
use Rattle.dj_reader.specs.Terminals.{is_the_word, is_the_sign, is_a_name}
use Rattle.dj_expr_reader.specs.declared.machine.Callee as code_callee
use Rattle.dj_expr_reader.specs.declared.machine.Frame as code
use Rattle.dj_expr_reader.specs.declared.machine.Frame.TheVariants as frame
use Rattle.dj_expr_reader.specs.Marks.{Mark}
use Rattle.dj_expr_reader.specs.Machine.{Frame, Bracket, Cast, Assign, Arguments, kept, passed, Mode, Waiting, Opened, OpenedName, ClosedName, Named, New, NewClass, NewOpened, Holding, Dotted, Member, Called, Move, go, finish, stuck, begins_operand, take_operand, close_bracket, next_argument, end_expression, take_next, asks_for_original, take_after_name, begin_value, step}
use Rattle.dj_expr_reader.specs.View.{plain_frames, CountsBelow}

-- no arguments that are open have as many complete ones
abbrev Below : ℕ → List Frame → Type 0
Below most [] = Unit {0}
Below most (Bracket ∷ frames) = Below most frames
Below most (Cast class ∷ frames) = Below most frames
Below most (Assign f ∷ frames) = Below most frames
Below most (Arguments callee count ∷ frames) = (count < most) × Below most frames

-- the same after a move
abbrev After : ℕ → Move → Type 0
After most (go mode frames marks) = Below most frames
After most (finish marks) = Unit {0}
After most stuck = Unit {0}

seen : (bytes : List ℕ) (most : ℕ) (frames : List code.Frame) → CountsBelow most frames → Below most (plain_frames bytes frames)
seen bytes most [] b = tt
seen bytes most (frame.Bracket ∷ frames) b = seen bytes most frames b
seen bytes most (frame.Cast class ∷ frames) b = seen bytes most frames b
seen bytes most (frame.Assign f ∷ frames) b = seen bytes most frames b
seen bytes most (frame.Arguments callee count ∷ frames) b = (b.0, seen bytes most frames b.1)

unseen : (bytes : List ℕ) (most : ℕ) (frames : List code.Frame) → Below most (plain_frames bytes frames) → CountsBelow most frames
unseen bytes most [] b = tt
unseen bytes most (frame.Bracket ∷ frames) b = unseen bytes most frames b
unseen bytes most (frame.Cast class ∷ frames) b = unseen bytes most frames b
unseen bytes most (frame.Assign f ∷ frames) b = unseen bytes most frames b
unseen bytes most (frame.Arguments callee count ∷ frames) b = (b.0, unseen bytes most frames b.1)

more : (most : ℕ) (frames : List Frame) → Below most frames → Below (most + 1) frames
more most [] b = tt
more most (Bracket ∷ frames) b = more most frames b
more most (Cast class ∷ frames) b = more most frames b
more most (Assign f ∷ frames) b = more most frames b
more most (Arguments callee count ∷ frames) b = (omega (arith, b.0), more most frames b.1)

below_kept : (most : ℕ) (frames : List Frame) → Below most frames → Below most (kept frames)
below_kept most [] b = tt
below_kept most (Bracket ∷ frames) b = b
below_kept most (Cast class ∷ frames) b = below_kept most frames b
below_kept most (Assign f ∷ frames) b = below_kept most frames b
below_kept most (Arguments callee count ∷ frames) b = b

by_test : {M : Type 0} (P : M → Type 0) (b : Bool) (m n : M) → P m → P n → P (cond b m n)
by_test P true m n f g = f
by_test P false m n f g = g

module _ (most : ℕ) where
  operand : (s : Symbol) (frames : List Frame) (marks : List Mark) → Below (most + 1) frames → After (most + 1) (take_operand s frames marks)
  operand s frames marks b =
      by_test (After (most + 1)) (is_the_sign (codes "(") s) _ _ b
      (by_test (After (most + 1)) (is_the_word (codes "this") s) _ _ b
      (by_test (After (most + 1)) (is_the_word (codes "null") s) _ _ b
      (by_test (After (most + 1)) (is_the_word (codes "new") s) _ _ b (by_test (After (most + 1)) (is_a_name s) _ _ b tt))))

  closing : (frames : List Frame) (marks : List Mark) → Below most frames → After (most + 1) (close_bracket frames marks)
  closing [] marks b = tt
  closing (Bracket ∷ frames) marks b = more most frames b
  closing (Cast class ∷ frames) marks b = tt
  closing (Assign f ∷ frames) marks b = tt
  closing (Arguments callee count ∷ frames) marks b = more most frames b.1

  separating : (frames : List Frame) (marks : List Mark) → Below most frames → After (most + 1) (next_argument frames marks)
  separating [] marks b = tt
  separating (Bracket ∷ frames) marks b = tt
  separating (Cast class ∷ frames) marks b = tt
  separating (Assign f ∷ frames) marks b = tt
  separating (Arguments callee count ∷ frames) marks b = (omega (arith, b.0), more most frames b.1)

  ending : (frames : List Frame) (marks : List Mark) → After (most + 1) (end_expression frames marks)
  ending [] marks = tt
  ending (f ∷ frames) marks = tt

  behind : (s : Symbol) (frames : List Frame) (marks : List Mark) → Below most frames → After (most + 1) (take_next s frames marks)
  behind s frames marks b =
      by_test (After (most + 1)) (is_the_sign (codes ".") s) _ _ (more most frames b)
      (by_test (After (most + 1)) (is_the_sign (codes ")") s) _ _ (closing (kept frames) (marks ++ passed frames) (below_kept most frames b))
      (by_test (After (most + 1)) (is_the_sign (codes ",") s) _ _ (separating (kept frames) (marks ++ passed frames) (below_kept most frames b))
      (by_test (After (most + 1)) (is_the_sign (codes ";") s) _ _ (ending (kept frames) (marks ++ passed frames)) tt)))

  after_name : (d : Dialect) (x : Spot) (s : Symbol) (frames : List Frame) (marks : List Mark) → Below most frames → After (most + 1) (take_after_name d x s frames marks)
  after_name d x s frames marks b = by_test (After (most + 1)) (is_the_sign (codes "(") s && asks_for_original d x) _ _ (more most frames b) (behind s frames _ b)

  value : (f : Spot) (frames : List Frame) (marks : List Mark) → Below most frames → After (most + 1) (begin_value f frames marks)
  value f [] marks b = tt
  value f (Bracket ∷ frames) marks b = more most frames b
  value f (Cast class ∷ frames) marks b = tt
  value f (Assign g ∷ frames) marks b = more most frames b
  value f (Arguments callee count ∷ frames) marks b = (omega (arith, b.0), more most frames b.1)

  step_adds : (d : Dialect) (mode : Mode) (frames : List Frame) (marks : List Mark) (s : Symbol) → 0 < most → Below most frames → After (most + 1) (step d mode frames marks s)
  step_adds d Waiting frames marks s some b = operand s frames marks (more most frames b)
  step_adds d Opened frames marks s some b = by_test (After (most + 1)) (is_a_name s) _ _ (more most frames b) (operand s (Bracket ∷ frames) marks (more most frames b))
  step_adds d (OpenedName x) frames marks s some b = by_test (After (most + 1)) (is_the_sign (codes ")") s) _ _ (more most frames b) (after_name d x s (Bracket ∷ frames) marks b)
  step_adds d (ClosedName x) frames marks s some b =
      by_test (After (most + 1)) (begins_operand s) _ _ (operand s (Cast x ∷ frames) marks (more most frames b)) (behind s frames _ b)
  step_adds d (Named x) frames marks s some b = after_name d x s frames marks b
  step_adds d New frames marks s some b = by_test (After (most + 1)) (is_a_name s) _ _ (more most frames b) tt
  step_adds d (NewClass class) frames marks s some b = by_test (After (most + 1)) (is_the_sign (codes "(") s) _ _ (more most frames b) tt
  step_adds d (NewOpened class) frames marks s some b = by_test (After (most + 1)) (is_the_sign (codes ")") s) _ _ (more most frames b) tt
  step_adds d Holding frames marks s some b = behind s frames marks b
  step_adds d Dotted frames marks s some b = by_test (After (most + 1)) (is_a_name s) _ _ (more most frames b) tt
  step_adds d (Member f) frames marks s some b =
      by_test (After (most + 1)) (is_the_sign (codes "(") s) _ _ (more most frames b)
      (by_test (After (most + 1)) (is_the_sign (codes "=") s) _ _ (value f frames marks b) (behind s frames _ b))
  step_adds d (Called callee) frames marks s some b =
      by_test (After (most + 1)) (is_the_sign (codes ")") s) _ _ (more most frames b) (operand s (Arguments callee 0 ∷ frames) marks (omega (arith, some), more most frames b))

-- ---- the same in the code

-- arguments on top, once casts and assignments are finished
pub count_below : (most : ℕ) (old new rest : List code.Frame) (callee : code_callee.Callee) (count : ℕ) → CountsBelow most old → plain_frames [] new ≡ kept (plain_frames [] old)
    → new ≡ frame.Arguments callee count ∷ rest → count < most
count_below most old new rest callee count b e is =
    let still : Below most (plain_frames [] new) = subst (Below most) (sym e) (below_kept most (plain_frames [] old) (seen [] most old b)) in
    let top : Below most (plain_frames [] (frame.Arguments callee count ∷ rest)) = subst (λ l. Below most (plain_frames [] l)) is still in
    top.0

pub counts_under : (low high : ℕ) (frames : List code.Frame) → low ≤ high → CountsBelow low frames → CountsBelow high frames
counts_under low high [] l b = tt
counts_under low high (frame.Bracket ∷ frames) l b = counts_under low high frames l b
counts_under low high (frame.Cast class ∷ frames) l b = counts_under low high frames l b
counts_under low high (frame.Assign f ∷ frames) l b = counts_under low high frames l b
counts_under low high (frame.Arguments callee count ∷ frames) l b = (omega (arith, l, b.0), counts_under low high frames l b.1)

-- where a step goes on
pub counts_grow : (bytes : List ℕ) (most : ℕ) (d : Dialect) (mode later : Mode) (old new : List code.Frame) (marks made : List Mark) (s : Symbol) → 0 < most → CountsBelow most old
    → step d mode (plain_frames bytes old) marks s ≡ go later (plain_frames bytes new) made → CountsBelow (most + 1) new
counts_grow bytes most d mode later old new marks made s some b e =
    unseen bytes (most + 1) new (subst (After (most + 1)) e (step_adds most d mode (plain_frames bytes old) marks s some (seen bytes most old b)))
