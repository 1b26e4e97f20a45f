-- What is said of an expression that was judged: its type, or the least instance of a rule that is broken within it.
use Rattle.std.specs.Prelude.{◌≡◌, ℕ, List, IfOk}
use Rattle.std.specs.declared.result.Result.{Result}
use Rattle.std.specs.declared.result.Result.TheVariants.{Ok, Err}
use Rattle.dj_names.specs.Texts.{Text}
use Rattle.dj_tree.specs.Trees.{Expr}
use Rattle.dj_tree.specs.declared.source.Instance.{Instance}
use Rattle.dj_calculus.specs.Tables.{Table}
use Rattle.dj_calculus.specs.Typing.{Home, Arguments, Types}
use Rattle.dj_calculus.specs.BodyRules.{place_of, WrongNumber, WrongArgument, NodeRule, BreaksWithin}
use Rattle.dj_calculus.specs.Instances.{IsLeast}
use Rattle.ifj_typing.specs.Kinds.{plain_kind, IsKnownKind}
use Rattle.ifj_typing.specs.declared.kind.Kind.{Kind}
use Rattle.ifj_typing.specs.declared.kind.Typed.{Typed}

-- the expression's root breaks the rule, at the place
pub record BreaksAt (t : Table) (home : Home) (e : Expr) (i : Instance) : Type 0 where
  pub breaks : NodeRule t home e i.rule i.at
  pub one_place : i.second ≡ i.at

-- some node within it does
pub record BreaksIn (t : Table) (home : Home) (e : Expr) (i : Instance) : Type 0 where
  pub breaks : BreaksWithin t home e i.rule i.at
  pub one_place : i.second ≡ i.at

-- of an expression whose parts have types: its type, or the least instance at its root
abbrev pub SaysRoot : Table → Home → List Text → Expr → Result Kind Instance → Type 0
SaysRoot t home names e (Ok kind) = Types t home e (plain_kind names kind)
SaysRoot t home names e (Err i) = IsLeast (BreaksAt t home e) i

-- of any expression
abbrev pub Says : Table → Home → List Text → Expr → Result Kind Instance → Type 0
Says t home names e (Ok kind) = Types t home e (plain_kind names kind)
Says t home names e (Err i) = IsLeast (BreaksIn t home e) i

-- the expression was judged right
pub record IsRight (t : Table) (home : Home) (names : List Text) (e : Expr) (out : Typed) : Type 0 where
  pub place : out.at ≡ place_of e
  pub says : Says t home names e out.found
  pub known : IfOk out.found (IsKnownKind names)

-- ---- arguments

-- what is wrong with the arguments of a call at a place: their number, or one of them
pub data ArgumentRule (t : Table) (home : Home) (arguments : Arguments) (parameters : List Text) (at : ℕ) : ℕ → ℕ → Type 0 where
  number : WrongNumber t home arguments parameters → ArgumentRule t home arguments parameters at 18 at
  argument : (v : Expr) → WrongArgument t home arguments parameters v → ArgumentRule t home arguments parameters at 19 (place_of v)

pub record BreaksArguments (t : Table) (home : Home) (arguments : Arguments) (parameters : List Text) (at : ℕ) (i : Instance) : Type 0 where
  pub breaks : ArgumentRule t home arguments parameters at i.rule i.at
  pub one_place : i.second ≡ i.at
