-- Arguments that fit their parameters, and those that don't.
use Rattle.std.specs.Prelude.{◌≡◌, ℕ, List, Some, slice_get}
use Rattle.dj_names.specs.Texts.{Text}
use Rattle.dj_tree.specs.Trees.{Expr}
use Rattle.dj_tree.specs.declared.source.Instance.{Instance}
use Rattle.dj_calculus.specs.Tables.{Table}
use Rattle.dj_calculus.specs.Subclasses.{Kind, class_kind, Below}
use Rattle.dj_calculus.specs.Typing.{Home, Types}
use Rattle.dj_calculus.specs.BodyRules.{place_of}

-- the expression has a type below this class
abbrev pub FitsOne : Table → Home → Expr → Text → Type 0
FitsOne t home e u = (a : Kind) × Types t home e a × Below t a (class_kind u)

-- it has a type that isn't
pub record WrongOne (t : Table) (home : Home) (e : Expr) (u : Text) (i : Instance) : Type 0 where
  pub rule : i.rule ≡ 19
  pub place : i.at ≡ place_of e
  pub one_place : i.second ≡ i.at
  pub kind : Kind
  pub types : Types t home e kind
  pub wrong : ¬ (Below t kind (class_kind u))

-- the argument of a number fits, and doesn't
abbrev pub FitsAt : Table → Home → List Expr → List Text → ℕ → Type 0
FitsAt t home es us k = (e : Expr) (u : Text) → slice_get es k ≡ Some e → slice_get us k ≡ Some u → FitsOne t home e u

pub record WrongAt (t : Table) (home : Home) (es : List Expr) (us : List Text) (k : ℕ) (i : Instance) : Type 0 where
  pub e : Expr
  pub u : Text
  pub argument : slice_get es k ≡ Some e
  pub parameter : slice_get us k ≡ Some u
  pub wrong : WrongOne t home e u i
