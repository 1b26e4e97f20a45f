-- Finishing the casts and assignments on top.
use Rattle.std.proofs.Common.{◌≡◌, List, [], ◌∷◌, ◌++◌, refl, ap}
use Rattle.dj_tree.specs.Trees.{CastForm, AssignForm}
use Rattle.dj_expr_reader.specs.Machine.{Frame, Bracket, Cast, Assign, Arguments, kept, passed}

-- all of them are casts and assignments
abbrev pub AllPass : List Frame → Type 0
AllPass [] = Unit {0}
AllPass (Bracket ∷ frames) = ⊥
AllPass (Cast class ∷ frames) = AllPass frames
AllPass (Assign f ∷ frames) = AllPass frames
AllPass (Arguments callee count ∷ frames) = ⊥

-- no cast or assignment is on top
abbrev pub Keeps : List Frame → Type 0
Keeps [] = Unit {0}
Keeps (Bracket ∷ frames) = Unit {0}
Keeps (Cast class ∷ frames) = ⊥
Keeps (Assign f ∷ frames) = ⊥
Keeps (Arguments callee count ∷ frames) = Unit {0}

-- no cast is on top
abbrev pub NoCast : List Frame → Type 0
NoCast [] = Unit {0}
NoCast (Bracket ∷ frames) = Unit {0}
NoCast (Cast class ∷ frames) = ⊥
NoCast (Assign f ∷ frames) = Unit {0}
NoCast (Arguments callee count ∷ frames) = Unit {0}

pub and_one : (frames : List Frame) (f : Frame) → AllPass frames → AllPass (f ∷ []) → AllPass (frames ++ f ∷ [])
and_one [] f a l = l
and_one (Bracket ∷ frames) f a l = absurd a
and_one (Cast class ∷ frames) f a l = and_one frames f a l
and_one (Assign g ∷ frames) f a l = and_one frames f a l
and_one (Arguments callee count ∷ frames) f a l = absurd a

pub passed-and_one : (frames : List Frame) (f : Frame) → AllPass frames → passed (frames ++ f ∷ []) ≡ passed frames ++ passed (f ∷ [])
passed-and_one [] f a = refl
passed-and_one (Bracket ∷ frames) f a = absurd a
passed-and_one (Cast class ∷ frames) f a = ap (λ l. (CastForm class, 1) ∷ l) (passed-and_one frames f a)
passed-and_one (Assign g ∷ frames) f a = ap (λ l. (AssignForm g, 2) ∷ l) (passed-and_one frames f a)
passed-and_one (Arguments callee count ∷ frames) f a = absurd a

-- just those on top are finished
pub kept-top : (frames below : List Frame) → AllPass frames → Keeps below → kept (frames ++ below) ≡ below
kept-top [] [] a k = refl
kept-top [] (Bracket ∷ below) a k = refl
kept-top [] (Cast class ∷ below) a k = absurd k
kept-top [] (Assign f ∷ below) a k = absurd k
kept-top [] (Arguments callee count ∷ below) a k = refl
kept-top (Bracket ∷ frames) below a k = absurd a
kept-top (Cast class ∷ frames) below a k = kept-top frames below a k
kept-top (Assign f ∷ frames) below a k = kept-top frames below a k
kept-top (Arguments callee count ∷ frames) below a k = absurd a

pub passed-top : (frames below : List Frame) → AllPass frames → Keeps below → passed (frames ++ below) ≡ passed frames
passed-top [] [] a k = refl
passed-top [] (Bracket ∷ below) a k = refl
passed-top [] (Cast class ∷ below) a k = absurd k
passed-top [] (Assign f ∷ below) a k = absurd k
passed-top [] (Arguments callee count ∷ below) a k = refl
passed-top (Bracket ∷ frames) below a k = absurd a
passed-top (Cast class ∷ frames) below a k = ap (λ l. (CastForm class, 1) ∷ l) (passed-top frames below a k)
passed-top (Assign f ∷ frames) below a k = ap (λ l. (AssignForm f, 2) ∷ l) (passed-top frames below a k)
passed-top (Arguments callee count ∷ frames) below a k = absurd a
