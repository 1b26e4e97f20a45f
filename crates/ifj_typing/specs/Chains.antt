-- Which chains of superclasses never end, by the numbers of classes.
use Rattle.std.specs.Prelude.{◌≡◌, ℕ, ◌<◌, Bool, List, [], length, slice_get, unwrap_or, Option, Some, Decides}
use Rattle.dj_names.specs.Texts.{Text}
use Rattle.dj_calculus.specs.Subclasses.{Steps, Above}
use Rattle.dj_calculus.specs.TableRules.{IsEndless}
use Rattle.ifj_table.specs.Tables.{plain_table, table_classes, class_keys}
use Rattle.ifj_table.specs.declared.table.Table.{Table}

-- the name of the class of a number
abbrev pub class_text : Table → ℕ → Text
class_text t n = unwrap_or (slice_get (class_keys t) n) []

-- what is told of the classes so far: whether the chain from each never ends
abbrev pub AreTold : Table → List Bool → Type 0
AreTold t endless = (n : ℕ) (b : Bool) → slice_get endless n ≡ Some b → Decides b (IsEndless (plain_table t) (class_text t n))

-- it is told of each class
pub record AreChains (t : Table) (endless : List Bool) : Type 0 where
  pub all : length endless ≡ length (table_classes t)
  pub told : AreTold t endless

-- The classes that walks went past: each walk goes up from the class of its number, and a class is of the walk that came to it first.
pub record AreWalked (t : Table) (walks : List (Option ℕ)) (count : ℕ) : Type 0 where
  pub all : length walks ≡ length (table_classes t)
  pub before : (n w : ℕ) → slice_get walks n ≡ Some (Some w) → w < count
  pub leads : (n w : ℕ) → slice_get walks n ≡ Some (Some w) → Steps (plain_table t) (class_text t w) (class_text t n)

-- in the midst of a walk, which is at this class: it comes here from each class of the walk
abbrev pub ComesHere : Table → List (Option ℕ) → ℕ → ℕ → Type 0
ComesHere t walks walk here = (n : ℕ) → slice_get walks n ≡ Some (Some walk) → Above (plain_table t) (class_text t n) (class_text t here)
