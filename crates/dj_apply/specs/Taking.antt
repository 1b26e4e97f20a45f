-- Steps on a class that is in a table.
use Rattle.std.specs.Prelude.{◌≡◌, List, Some}
use Rattle.std.specs.FinMap.{get, insert}
use Rattle.dj_names.specs.Texts.{Text}
use Rattle.dj_calculus.specs.Things.{Step}
use Rattle.dj_calculus.specs.Tables.{ClassEntry, Table}
use Rattle.dj_calculus.specs.Operations.{run, take_step}

-- the class is in the table, and the steps are defined on it
pub record CanTake (t : Table) (class : Text) (steps : List Step) : Type 0 where
  pub old : ClassEntry
  pub new : ClassEntry
  pub there : get t class ≡ Some old
  pub taken : run take_step steps old ≡ Some new

-- the second table is the first with these steps taken on the class
pub record Takes (before after : Table) (class : Text) (steps : List Step) : Type 0 where
  pub old : ClassEntry
  pub new : ClassEntry
  pub there : get before class ≡ Some old
  pub taken : run take_step steps old ≡ Some new
  pub is : after ≡ insert before class new
