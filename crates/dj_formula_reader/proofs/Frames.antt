-- Finishing the operators on top.
use Rattle.std.proofs.Common.{◌≡◌, ℕ, ◌≤◌, ◌<◌, List, [], ◌∷◌, ◌++◌, refl, sym, ap, ◌∙◌, append_assoc, arith}
use Rattle.std.proofs.lemmas.Bool.{le-leb, lt-leb}
use Rattle.std.proofs.lemmas.List.{append-nil}
use Rattle.dj_tree.specs.Trees.{FormulaForm}
use Rattle.dj_formula_reader.specs.declared.machine.Frame.{Frame}
use Rattle.dj_formula_reader.specs.Machine.{rank_of, left_by, kept, passed}

-- all of them bind as tightly
abbrev pub AtLeast : ℕ → List Frame → Type 0
AtLeast rank [] = Unit {0}
AtLeast rank (f ∷ frames) = (rank ≤ rank_of f) × AtLeast rank frames

-- the one on top, if any, binds less tightly
abbrev pub Below : ℕ → List Frame → Type 0
Below rank [] = Unit {0}
Below rank (f ∷ frames) = rank_of f < rank

-- the nodes that they leave
abbrev pub leaves : List Frame → List FormulaForm
leaves [] = []
leaves (f ∷ frames) = left_by f ++ leaves frames

pub looser : (low high : ℕ) (frames : List Frame) → low ≤ high → AtLeast high frames → AtLeast low frames
looser low high [] l a = tt
looser low high (f ∷ frames) l a = (omega (arith, l, a.0), looser low high frames l a.1)

pub still_below : (low high : ℕ) (frames : List Frame) → low ≤ high → Below low frames → Below high frames
still_below low high [] l b = tt
still_below low high (f ∷ frames) l b = omega (arith, l, b)

pub and_one : (rank : ℕ) (frames : List Frame) (f : Frame) → AtLeast rank frames → rank ≤ rank_of f → AtLeast rank (frames ++ f ∷ [])
and_one rank [] f a l = (l, tt)
and_one rank (g ∷ frames) f a l = (a.0, and_one rank frames f a.1 l)

pub leaves-and_one : (frames : List Frame) (f : Frame) → leaves (frames ++ f ∷ []) ≡ leaves frames ++ left_by f
leaves-and_one [] f = append-nil (left_by f)
leaves-and_one (g ∷ frames) f = ap (λ l. left_by g ++ l) (leaves-and_one frames f) ∙ sym (append_assoc (left_by g) (leaves frames) (left_by f))

-- just those on top are finished
pub kept-top : (rank : ℕ) (frames below : List Frame) → AtLeast rank frames → Below rank below → kept rank (frames ++ below) ≡ below
kept-top rank [] [] a b = refl
kept-top rank [] (g ∷ below) a b = rw (lt-leb rank (rank_of g) b) refl
kept-top rank (f ∷ frames) below a b = rw (le-leb rank (rank_of f) a.0) (kept-top rank frames below a.1 b)

pub passed-top : (rank : ℕ) (frames below : List Frame) → AtLeast rank frames → Below rank below → passed rank (frames ++ below) ≡ leaves frames
passed-top rank [] [] a b = refl
passed-top rank [] (g ∷ below) a b = rw (lt-leb rank (rank_of g) b) refl
passed-top rank (f ∷ frames) below a b = rw (le-leb rank (rank_of f) a.0) (ap (λ l. left_by f ++ l) (passed-top rank frames below a.1 b))
